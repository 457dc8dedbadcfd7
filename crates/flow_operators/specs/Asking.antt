-- One ask of a chain: it answers the first entry of the rest of the chain's run, and takes that entry off.
--   answer         rest before           rest after
--   Item x         gives x r             r
--   Pending        pends r               r
--   End            ends Completed        ends Completed
--   Fault f        ends (Failed f)       ends Completed
-- An ask may fail with `OutOfMemory` instead of any of these answers. The chain is then over, too.
use Rattle.std.specs.Prelude.{◌≡◌, ◌⊎◌, ◌+◌, List, [], ◌∷◌, ◌++◌, length, Option, Some, None}
use Rattle.flow_law.specs.declared.chain.ChainFault.TheVariants.{OutOfMemory}
use Rattle.flow_law.specs.declared.chain.End.{End}
use Rattle.flow_law.specs.declared.chain.End.TheVariants.{Completed, Failed}
use Rattle.flow_law.specs.chain.ChainRun.{ChainRun, gives, pends, ends, entries, asks}
use Rattle.flow_operators.specs.declared.cold.Asked.{Asked}
use Rattle.flow_operators.specs.declared.cold.Asked.TheVariants.{Item, Pending, End as Ended, Fault}

module _ {T : Type 0} where
  -- the answer is the first entry of `before`, and `after` is the rest behind it; or the ask failed with OutOfMemory
  abbrev pub AskGives : ChainRun T → Asked T → ChainRun T → Type 0
  AskGives before (Item x) after = before ≡ gives x after
  AskGives before Pending after = before ≡ pends after
  AskGives before Ended after = (before ≡ ends Completed) × (after ≡ ends Completed)
  AskGives before (Fault fault) after = ((before ≡ ends (Failed fault)) ⊎ (fault ≡ OutOfMemory)) × (after ≡ ends Completed)

  -- the answers after which a chain is over
  abbrev pub IsFinal : Asked T → Type 0
  IsFinal (Item x) = ⊥
  IsFinal Pending = ⊥
  IsFinal Ended = Unit {0}
  IsFinal (Fault fault) = Unit {0}

  -- the answer is an item
  abbrev pub IsItem : Asked T → Type 0
  IsItem (Item x) = Unit {0}
  IsItem Pending = ⊥
  IsItem Ended = ⊥
  IsItem (Fault fault) = ⊥

  -- P of the end that the answer reports, if it reports one
  abbrev pub OnEnd : Asked T → (End → Type 0) → Type 0
  OnEnd (Item x) P = Unit {0}
  OnEnd Pending P = Unit {0}
  OnEnd Ended P = P Completed
  OnEnd (Fault fault) P = P (Failed fault)

  -- the entry of an item or of Pending; an end or a fault has none
  abbrev pub entry_of : Asked T → List (Option T)
  entry_of (Item x) = Some x ∷ []
  entry_of Pending = None ∷ []
  entry_of Ended = []
  entry_of (Fault fault) = []

-- A chain can be asked before its end as often as the rest of its run has entries. Each ask that is not final takes one entry. A final ask
-- leaves no entries, and finds none unless it fails with OutOfMemory.
abbrev pub LawAsksLeft : Type 0 → Type 0
LawAsksLeft T =
    (before after : ChainRun T) (asked : Asked T) → AskGives before asked after →
    (asks before ≡ length (entries before))
    × ((¬ IsFinal asked) → (asks before ≡ asks after + 1) × (entries before ≡ entry_of asked ++ entries after))
    × (IsFinal asked → (asks after ≡ 0) × ((asks before ≡ 0) ⊎ (asked ≡ Fault OutOfMemory)))
