-- Where a terminal operator leaves a chain that it started from the beginning: just after the item that settles its answer.
--   call                                          whole run                                      rest of it
--   first                                         pends (gives 1 (pends (gives 2 (ends e))))     pends (gives 2 (ends e))
--   single                                        gives 1 (pends (gives 2 (gives 3 (ends e))))   gives 3 (ends e)
--   any even                                      gives 1 (gives 2 (pends (gives 4 (ends e))))   pends (gives 4 (ends e))
--   all even                                      gives 2 (gives 3 (gives 4 (ends e)))           gives 4 (ends e)
--   a fold, reduce or for_each that fails at 2    gives 1 (gives 2 (gives 3 (ends e)))           gives 3 (ends e)
-- If no item settles the answer, the chain is over (`IsOver` of `Cold`).
use Rattle.std.specs.Prelude.{◌≡◌, ◌⊎◌, ◌≤◌, ◌^◌, Bool, not, List, ◌++◌, length, Result, Ok, Err}
use Rattle.flow_law.specs.declared.chain.ChainFault.{ChainFault}
use Rattle.flow_law.specs.chain.ChainRun.{ChainRun, gives, pends, ends, items, ending}

module _ {T : Type 0} where
  -- the run from its first item, or from its end if it has no item
  abbrev pub from_item : ChainRun T → ChainRun T
  from_item (gives x r) = gives x r
  from_item (pends r) = from_item r
  from_item (ends e) = ends e

  -- x is the first item of `whole`, and `rest` is what follows it
  abbrev pub StandsAfterFirst : T → ChainRun T → ChainRun T → Type 0
  StandsAfterFirst x whole rest = from_item whole ≡ gives x rest

  -- `rest` is what follows the second item of `whole`
  abbrev pub StandsAfterSecond : ChainRun T → ChainRun T → Type 0
  StandsAfterSecond whole rest = (x : T) × (y : T) × (between : ChainRun T) × StandsAfterFirst x whole between × StandsAfterFirst y between rest

  -- the run has no second item
  abbrev pub HasNoSecond : ChainRun T → Type 0
  HasNoSecond whole = length (items whole) ≤ 1

  -- `rest` has what follows the item of `whole` that 64 bits do not count
  abbrev pub StandsAfterOverflow : ChainRun T → ChainRun T → Type 0
  StandsAfterOverflow whole rest = (xs : List T) × (length xs ≡ 2 ^ 64) × (items whole ≡ xs ++ items rest) × (ending whole ≡ ending rest)

-- x is the first item of `whole` at which the test answers `wanted`, and `rest` is what follows x; `post` says what the test may answer
abbrev pub StandsAfterFound : {T : Type 0} → (T → Bool → Type 0) → Bool → T → ChainRun T → ChainRun T → Type 0
StandsAfterFound post wanted x (gives y r) rest = ((y ≡ x) × post x wanted × (r ≡ rest)) ⊎ (post y (not wanted) × StandsAfterFound post wanted x r rest)
StandsAfterFound post wanted x (pends r) rest = StandsAfterFound post wanted x r rest
StandsAfterFound post wanted x (ends e) rest = ⊥

-- a closure that makes each result of the one before and an item failed with this fault at an item of `whole`, and `rest` is what follows
-- that item; `last` is the first result
abbrev pub StandsAfterFailed : {T U : Type 0} → (U → T → Result U ChainFault → Type 0) → ChainFault → U → ChainRun T → ChainRun T → Type 0
StandsAfterFailed post fault last (gives x r) rest =
    (post last x (Err fault) × (r ≡ rest)) ⊎ ((next : _) × post last x (Ok next) × StandsAfterFailed post fault next r rest)
StandsAfterFailed post fault last (pends r) rest = StandsAfterFailed post fault last r rest
StandsAfterFailed post fault last (ends e) rest = ⊥

-- the same of a `reduce`, whose first result is the first item
abbrev pub StandsAfterReduced : {T : Type 0} → (T → T → Result T ChainFault → Type 0) → ChainFault → ChainRun T → ChainRun T → Type 0
StandsAfterReduced {T} post fault whole rest = (x : T) × (further : ChainRun T) × StandsAfterFirst x whole further × StandsAfterFailed post fault x further rest

-- the same of a closure that is called with each item; `step` says what a call answers, and what the closure becomes
abbrev pub StandsAfterVisited : {T F : Type 0} → (F → T → Result (Unit {0}) ChainFault → F → Type 0) → ChainFault → F → ChainRun T → ChainRun T → Type 0
StandsAfterVisited {F = F} step fault f (gives x r) rest =
    ((g : F) × step f x (Err fault) g × (r ≡ rest)) ⊎ ((g : F) × step f x (Ok tt) g × StandsAfterVisited step fault g r rest)
StandsAfterVisited step fault f (pends r) rest = StandsAfterVisited step fault f r rest
StandsAfterVisited step fault f (ends e) rest = ⊥
