-- What a cold chain gives (`Flow`): an entry for each ask before its end, and that end.
--   run        gives 5 (pends (gives 6 (ends Completed)))
--   entries    Some 5, None, Some 6        one for each ask: an item, or None if the chain pends
--   items      5, 6                        what a collection of the chain emits
--   ending     Completed
-- `meaning_of` of `Chain` gives a chain's meaning as a list and an end, without pending entries.
use Rattle.std.specs.Prelude.{◌≡◌, ◌⊎◌, ℕ, ◌+◌, List, [], ◌∷◌, ◌++◌, Option, Some, None}
use Rattle.flow_law.specs.declared.chain.ChainFault.TheVariants.{OutOfMemory}
use Rattle.flow_law.specs.declared.chain.End.{End}
use Rattle.flow_law.specs.declared.chain.End.TheVariants.{Completed, Failed}

-- an item and what follows, a turn that pends and what follows, or the end
pub data ChainRun (T : Type 0) : Type 0 where
  gives : T → ChainRun T → ChainRun T
  pends : ChainRun T → ChainRun T
  ends : End → ChainRun T

module _ {T : Type 0} where
  -- the items of a run, in their order
  abbrev pub items : ChainRun T → List T
  items (gives x r) = x ∷ items r
  items (pends r) = items r
  items (ends e) = []

  -- how the run ends
  abbrev pub ending : ChainRun T → End
  ending (gives x r) = ending r
  ending (pends r) = ending r
  ending (ends e) = e

  -- one entry for each ask before the end: an item, or None for an answer of pending
  abbrev pub entries : ChainRun T → List (Option T)
  entries (gives x r) = Some x ∷ entries r
  entries (pends r) = None ∷ entries r
  entries (ends e) = []

  -- how often the chain can be asked before its end
  abbrev pub asks : ChainRun T → ℕ
  asks (gives x r) = asks r + 1
  asks (pends r) = asks r + 1
  asks (ends e) = 0

  -- the items of a list, then completion
  abbrev pub list_run : List T → ChainRun T
  list_run [] = ends Completed
  list_run (x ∷ xs) = gives x (list_run xs)

  -- collecting the run may give these items and this end: all items and its end, or only the first ones and out of memory
  abbrev pub Collects : ChainRun T → List T → End → Type 0
  Collects r xs e =
      ((xs ≡ items r) × (e ≡ ending r))
      ⊎ ((e ≡ Failed OutOfMemory) × ((ys : List T) × (items r ≡ xs ++ ys)))
