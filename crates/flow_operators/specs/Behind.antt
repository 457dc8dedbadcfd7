-- What one ask of an operator takes from its upstream: just the entries that its answer needs.
--   operator          rest of the upstream             rest after one ask
--   map, take         gives 1 (gives 2 r)              gives 2 r
--   filter above 1    gives 1 (gives 2 (gives 3 r))    gives 3 r
--   scan, begun       gives 1 r                        r
--   scan, not begun   gives 1 r                        gives 1 r        the scan emits its initial value first
-- A pending turn or the end is taken like an item, and ends the ask. Begin with `AsksOnce` and `Leaves`.
use Rattle.std.specs.Prelude.{◌≡◌, ◌⊎◌, ℕ, zero, suc, Bool, cond, List, [], ◌∷◌, Option, Some, None, Result, Ok, Err}
use Rattle.flow_law.specs.declared.chain.ChainFault.{ChainFault}
use Rattle.flow_law.specs.declared.chain.ChainFault.TheVariants.{OutOfMemory}
use Rattle.flow_law.specs.declared.chain.End.TheVariants.{Completed}
use Rattle.flow_law.specs.chain.ChainRun.{ChainRun, gives, pends, ends}
use Rattle.flow_law.specs.chain.OperatorRuns.{is_repeated}
use Rattle.flow_operators.specs.declared.cold.Asked.{Asked}
use Rattle.flow_operators.specs.declared.cold.Asked.TheVariants.{Fault}

-- the rest after one ask
abbrev pub rest_after_ask : {A : Type 0} → ChainRun A → ChainRun A
rest_after_ask (gives x r) = r
rest_after_ask (pends r) = r
rest_after_ask (ends e) = ends Completed

-- one ask of the upstream leads from the rest `before` to the rest `after`; it may have failed with `OutOfMemory`
abbrev pub AsksOnce : {A B : Type 0} → ChainRun A → Asked B → ChainRun A → Type 0
AsksOnce before result after = (after ≡ rest_after_ask before) ⊎ ((result ≡ Fault OutOfMemory) × (after ≡ ends Completed))

-- the operator asked until it had its answer: it leaves the rest `due`, unless it failed with `OutOfMemory`
abbrev pub Leaves : {A B : Type 0} → ChainRun A → Asked B → ChainRun A → Type 0
Leaves due result after = (after ≡ due) ⊎ (result ≡ Fault OutOfMemory)

-- a `filter`: the rest after the first item that passes
abbrev pub after_filter : {A : Type 0} → (A → Bool) → ChainRun A → ChainRun A
after_filter test (gives x r) = cond (test x) r (after_filter test r)
after_filter test (pends r) = r
after_filter test (ends e) = ends Completed

-- a `drop`: the rest after n more items were dropped and the next one was emitted
abbrev pub after_drop : {A : Type 0} → ChainRun A → ℕ → ChainRun A
after_drop (gives x r) zero = r
after_drop (gives x r) (suc n) = after_drop r n
after_drop (pends r) n = r
after_drop (ends e) n = ends Completed

-- a `dropWhile` that still drops: the rest after the first item that fails
abbrev pub after_dropping : {A : Type 0} → (A → Bool) → ChainRun A → ChainRun A
after_dropping test (gives x r) = cond (test x) (after_dropping test r) r
after_dropping test (pends r) = r
after_dropping test (ends e) = ends Completed

-- a `dropWhile`: once it has emitted an item it asks only once
abbrev pub after_drop_while : {A : Type 0} → (A → Bool) → Bool → ChainRun A → ChainRun A
after_drop_while test is_dropping r = cond is_dropping (after_dropping test r) (rest_after_ask r)

-- a `distinctUntilChanged`: the rest after the first item that differs from the last one
abbrev pub after_distinct : {A : Type 0} → (A → A → Bool) → Option A → ChainRun A → ChainRun A
after_distinct is_same last (gives x r) = cond (is_repeated is_same last x) (after_distinct is_same last r) r
after_distinct is_same last (pends r) = r
after_distinct is_same last (ends e) = ends Completed

-- a `scan`: it emits its initial value without asking, and then asks once
abbrev pub after_scan : {A : Type 0} → Bool → ChainRun A → ChainRun A
after_scan begun r = cond begun (rest_after_ask r) r

-- r if the list has an item, else the rest that further asks leave
abbrev pub unless_empty : {A B : Type 0} → List B → ChainRun A → ChainRun A → ChainRun A
unless_empty [] r further = further
unless_empty (y ∷ ys) r further = r

-- r if the item has images or the closure failed at it, else the rest that further asks leave
abbrev pub unless_all_empty : {A B : Type 0} → Result (List B) ChainFault → ChainRun A → ChainRun A → ChainRun A
unless_all_empty (Ok ys) r further = unless_empty ys r further
unless_all_empty (Err fault) r further = r

-- a `transform`: the rest after the first item that has images, or at which the closure fails
abbrev pub after_transform : {A B : Type 0} → (A → Result (List B) ChainFault) → ChainRun A → ChainRun A
after_transform f (gives x r) = unless_all_empty (f x) r (after_transform f r)
after_transform f (pends r) = r
after_transform f (ends e) = ends Completed

-- r if the inner chain has not completed, else the rest that further asks leave
abbrev pub unless_completed : {A B : Type 0} → ChainRun B → ChainRun A → ChainRun A → ChainRun A
unless_completed (ends Completed) r further = further
unless_completed _ r further = r

-- r if the item's inner chain has not completed or the closure failed at it, else the rest that further asks leave
abbrev pub unless_opened_empty : {A B : Type 0} → Result (ChainRun B) ChainFault → ChainRun A → ChainRun A → ChainRun A
unless_opened_empty (Ok inner) r further = unless_completed inner r further
unless_opened_empty (Err fault) r further = r

-- a `flatMapConcat`: the rest after the first item whose inner chain does not complete at once, or at which the closure fails
abbrev pub after_flat_map : {A B : Type 0} → (A → Result (ChainRun B) ChainFault) → ChainRun A → ChainRun A
after_flat_map f (gives x r) = unless_opened_empty (f x) r (after_flat_map f r)
after_flat_map f (pends r) = r
after_flat_map f (ends e) = ends Completed

-- a `zip` asks its left side once, unless it keeps a left item
abbrev pub AsksLeft : {A B : Type 0} → Option A → ChainRun A → Asked B → ChainRun A → Type 0
AsksLeft (Some x) before result after = after ≡ before
AsksLeft None before result after = AsksOnce before result after

-- a `zip` then asks its right side once, if it has a left item and did not fail with `OutOfMemory` before; the first run is the left
-- side's rest, behind the kept item
abbrev pub AsksRight : {A B C : Type 0} → ChainRun A → ChainRun B → Asked C → ChainRun B → Type 0
AsksRight (gives x r) before result after = AsksOnce before result after ⊎ ((result ≡ Fault OutOfMemory) × (after ≡ before))
AsksRight (pends r) before result after = after ≡ before
AsksRight (ends e) before result after = after ≡ before
