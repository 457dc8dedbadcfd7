-- What each operator makes of the run of its upstream. A pending turn stays where it is; nothing follows the item at
-- which the operator ends the chain. `Chain` has the meaning of operators by lists.
use Rattle.std.specs.Prelude.{ℕ, zero, suc, Bool, false, cond, Result, Ok, Err, Option, Some, None, List, [], ◌∷◌}
use Rattle.flow_law.specs.declared.chain.ChainFault.{ChainFault}
use Rattle.flow_law.specs.declared.chain.End.TheVariants.{Completed, Failed}
use Rattle.flow_law.specs.chain.ChainRun.{ChainRun, gives, pends, ends}

-- what follows a closure's answer: `k` of its value, or the end by its fault
abbrev pub continued : {B C : Type 0} → Result B ChainFault → (B → ChainRun C) → ChainRun C
continued (Ok y) k = k y
continued (Err fault) k = ends (Failed fault)

-- `map`: each item's image
abbrev pub map_run : {A B : Type 0} → (A → Result B ChainFault) → ChainRun A → ChainRun B
map_run f (gives x r) = continued (f x) (λ y. gives y (map_run f r))
map_run f (pends r) = pends (map_run f r)
map_run f (ends e) = ends e

-- `filter`: the items that pass
abbrev pub filter_run : {A : Type 0} → (A → Bool) → ChainRun A → ChainRun A
filter_run test (gives x r) = cond (test x) (gives x (filter_run test r)) (filter_run test r)
filter_run test (pends r) = pends (filter_run test r)
filter_run test (ends e) = ends e

-- `takeWhile`: the items before the first that does not pass
abbrev pub take_while_run : {A : Type 0} → (A → Bool) → ChainRun A → ChainRun A
take_while_run test (gives x r) = cond (test x) (gives x (take_while_run test r)) (ends Completed)
take_while_run test (pends r) = pends (take_while_run test r)
take_while_run test (ends e) = ends e

-- `take`: the first n items; nothing follows the last of them
abbrev pub take_run : {A : Type 0} → ℕ → ChainRun A → ChainRun A
take_run zero r = ends Completed
take_run (suc n) (gives x r) = gives x (take_run n r)
take_run (suc n) (pends r) = pends (take_run (suc n) r)
take_run (suc n) (ends e) = ends e

-- `drop`: all items except the first n
abbrev pub drop_run : {A : Type 0} → ChainRun A → ℕ → ChainRun A
drop_run (gives x r) zero = gives x (drop_run r zero)
drop_run (gives x r) (suc n) = drop_run r n
drop_run (pends r) n = pends (drop_run r n)
drop_run (ends e) n = ends e

-- `dropWhile`: the first item that does not pass, and all that follows it
abbrev pub drop_while_run : {A : Type 0} → (A → Bool) → ChainRun A → ChainRun A
drop_while_run test (gives x r) = cond (test x) (drop_while_run test r) (gives x r)
drop_while_run test (pends r) = pends (drop_while_run test r)
drop_while_run test (ends e) = ends e

-- whether x is the same as the one before, if there is one
abbrev pub is_repeated : {A : Type 0} → (A → A → Bool) → Option A → A → Bool
is_repeated is_same (Some y) x = is_same y x
is_repeated is_same None x = false

-- `distinctUntilChanged`: the items that differ from the one before
abbrev pub distinct_run : {A : Type 0} → (A → A → Bool) → Option A → ChainRun A → ChainRun A
distinct_run is_same last (gives x r) = cond (is_repeated is_same last x) (distinct_run is_same last r) (gives x (distinct_run is_same (Some x) r))
distinct_run is_same last (pends r) = pends (distinct_run is_same last r)
distinct_run is_same last (ends e) = ends e

-- `scan`, without the initial value: the result of f for each item and the result before it; `last` is the one before the first item
abbrev pub scan_run : {A B : Type 0} → (B × A → Result B ChainFault) → B → ChainRun A → ChainRun B
scan_run f last (gives x r) = continued (f (last, x)) (λ y. gives y (scan_run f y r))
scan_run f last (pends r) = pends (scan_run f last r)
scan_run f last (ends e) = ends e

-- what f makes of the last result and x, or x itself if there is none
abbrev pub next_result : {A : Type 0} → (A × A → Result A ChainFault) → Option A → A → Result A ChainFault
next_result f (Some last) x = f (last, x)
next_result f None x = Ok x

-- `runningReduce`: the results after the last one; if there is none, the first item is the first result
abbrev pub running_reduce_run : {A : Type 0} → (A × A → Result A ChainFault) → Option A → ChainRun A → ChainRun A
running_reduce_run f last (gives x r) = continued (next_result f last x) (λ y. gives y (running_reduce_run f (Some y) r))
running_reduce_run f last (pends r) = pends (running_reduce_run f last r)
running_reduce_run f last (ends e) = ends e

-- the result of the left item x and the right side's next item; k says what follows
abbrev pub pair_run : {A B C : Type 0} → (A × B → Result C ChainFault) → A → (ChainRun B → ChainRun C) → ChainRun B → ChainRun C
pair_run f x k (gives y q) = continued (f (x, y)) (λ z. gives z (k q))
pair_run f x k (pends q) = pends (pair_run f x k q)
pair_run f x k (ends e) = ends e

-- `zip`: the results of the pairs; for each pair the left side is asked first
abbrev pub zip_run : {A B C : Type 0} → (A × B → Result C ChainFault) → ChainRun A → ChainRun B → ChainRun C
zip_run f (gives x r) = λ q. pair_run f x (zip_run f r) q
zip_run f (pends r) = λ q. pends (zip_run f r q)
zip_run f (ends e) = λ q. ends e

-- the items xs, then r
abbrev pub prepended : {A : Type 0} → List A → ChainRun A → ChainRun A
prepended [] r = r
prepended (x ∷ xs) r = gives x (prepended xs r)

-- `transform`: each item's images
abbrev pub transform_run : {A B : Type 0} → (A → Result (List B) ChainFault) → ChainRun A → ChainRun B
transform_run f (gives x r) = continued (f x) (λ ys. prepended ys (transform_run f r))
transform_run f (pends r) = pends (transform_run f r)
transform_run f (ends e) = ends e

-- r, then q if r completes
abbrev pub followed : {A : Type 0} → ChainRun A → ChainRun A → ChainRun A
followed (gives x r) q = gives x (followed r q)
followed (pends r) q = pends (followed r q)
followed (ends Completed) q = q
followed (ends (Failed fault)) q = ends (Failed fault)

-- `flatMapConcat`: the inner runs, one after the other
abbrev pub flat_map_run : {A B : Type 0} → (A → Result (ChainRun B) ChainFault) → ChainRun A → ChainRun B
flat_map_run f (gives x r) = continued (f x) (λ inner. followed inner (flat_map_run f r))
flat_map_run f (pends r) = pends (flat_map_run f r)
flat_map_run f (ends e) = ends e
