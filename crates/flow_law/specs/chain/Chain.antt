-- What a cold chain means (`Flow`): a list of items, and an end. Each operator is a function of such meanings.
--   upstream                   operator                   meaning
--   [1, 2, 3], Completed       map (add 1)                [2, 3, 4], Completed
--   [1, 2, 3], Completed       take 2                     [1, 2], Completed
--   [1, 2, 3], Failed fault    take 4                     [1, 2, 3], Failed fault
-- A closure's fault at an item ends the chain with that fault, after what the items before it gave.
-- That the runs of `OperatorRuns` mean this is proved in proofs/ChainLemmas, one lemma for each operator.
use Rattle.std.specs.Prelude.{ℕ, Bool, cond, nat_le, List, [], ◌∷◌, ◌++◌, length, take, drop, filter, take_while, zip, Option, Some, None, Result, Ok, Err}
use Rattle.std.specs.List.{list_all}
use Rattle.flow_law.specs.declared.chain.ChainFault.{ChainFault}
use Rattle.flow_law.specs.declared.chain.End.{End}
use Rattle.flow_law.specs.declared.chain.End.TheVariants.{Completed, Failed}
use Rattle.flow_law.specs.chain.ChainRun.{ChainRun, items, ending}
use Rattle.flow_law.specs.chain.OperatorRuns.{is_repeated}

-- all items of a chain, and its end
pub record Meaning (T : Type 0) : Type 0 where
  pub items : List T
  pub ending : End

-- what a run means: its items and its end, without pending turns
abbrev pub meaning_of : {T : Type 0} → ChainRun T → Meaning T
meaning_of r = record { items = items r; ending = ending r }

-- the meaning with these items and this end
abbrev pub meaning : {T : Type 0} → List T → End → Meaning T
meaning xs e = record { items = xs; ending = e }

-- the items xs, then m
abbrev pub with_first : {T : Type 0} → List T → Meaning T → Meaning T
with_first xs m = record { items = xs ++ m.items; ending = m.ending }

-- the items xs, then n if the end is Completed, else that end
abbrev pub with_ending : {T : Type 0} → List T → End → Meaning T → Meaning T
with_ending xs Completed n = with_first xs n
with_ending xs (Failed fault) n = meaning xs (Failed fault)

-- m, then n if m completes
abbrev pub then_meaning : {T : Type 0} → Meaning T → Meaning T → Meaning T
then_meaning m n = with_ending m.items m.ending n

-- what follows a closure's answer: `k` of its value, or a failed end
abbrev pub onward : {B C : Type 0} → Result B ChainFault → (B → Meaning C) → Meaning C
onward (Ok y) k = k y
onward (Err fault) k = meaning [] (Failed fault)

-- the images of the items up to the first that fails, then the end
abbrev pub images : {A B : Type 0} → (A → Result B ChainFault) → List A → End → Meaning B
images f [] e = meaning [] e
images f (x ∷ xs) e = onward (f x) (λ y. with_first (y ∷ []) (images f xs e))

-- `map`: each item's image, up to the first that fails
abbrev pub map_meaning : {A B : Type 0} → (A → Result B ChainFault) → Meaning A → Meaning B
map_meaning f m = images f m.items m.ending

-- `filter`: the items that pass
abbrev pub filter_meaning : {A : Type 0} → (A → Bool) → Meaning A → Meaning A
filter_meaning test m = meaning (filter test m.items) m.ending

-- `takeWhile`: the items before the first that does not pass, which completes the chain
abbrev pub take_while_meaning : {A : Type 0} → (A → Bool) → Meaning A → Meaning A
take_while_meaning test m = meaning (take_while test m.items) (cond (list_all test m.items) m.ending Completed)

-- `take`: the first n items, and completion if there are as many
abbrev pub take_meaning : {A : Type 0} → ℕ → Meaning A → Meaning A
take_meaning n m = meaning (take n m.items) (cond (nat_le n (length m.items)) Completed m.ending)

-- `drop`: all items except the first n
abbrev pub drop_meaning : {A : Type 0} → ℕ → Meaning A → Meaning A
drop_meaning n m = meaning (drop n m.items) m.ending

-- `dropWhile`: the first item that does not pass, and all items after it
abbrev pub drop_while_meaning : {A : Type 0} → (A → Bool) → Meaning A → Meaning A
drop_while_meaning test m = meaning (drop (length (take_while test m.items)) m.items) m.ending

-- the items that differ from the one before
abbrev pub differing : {A : Type 0} → (A → A → Bool) → Option A → List A → List A
differing is_same before [] = []
differing is_same before (x ∷ xs) = cond (is_repeated is_same before x) (differing is_same (Some x) xs) (x ∷ differing is_same (Some x) xs)

-- `distinctUntilChanged`: the items without those that are the same as the one before
abbrev pub distinct_meaning : {A : Type 0} → (A → A → Bool) → Meaning A → Meaning A
distinct_meaning is_same m = meaning (differing is_same None m.items) m.ending

-- the result of f for each item and the result before it, up to the first that fails, then the end
abbrev pub results : {A B : Type 0} → (B × A → Result B ChainFault) → B → List A → End → Meaning B
results f last [] e = meaning [] e
results f last (x ∷ xs) e = onward (f (last, x)) (λ y. with_first (y ∷ []) (results f y xs e))

-- `scan`: the initial value, then the results
abbrev pub scan_meaning : {A B : Type 0} → (B × A → Result B ChainFault) → B → Meaning A → Meaning B
scan_meaning f initial m = with_first (initial ∷ []) (results f initial m.items m.ending)

-- the first item, then the results after it, then the end; only the end if there are no items
abbrev pub reduced : {A : Type 0} → (A × A → Result A ChainFault) → List A → End → Meaning A
reduced f [] e = meaning [] e
reduced f (x ∷ xs) e = with_first (x ∷ []) (results f x xs e)

-- `runningReduce`: the first item, then each result with the next item
abbrev pub running_reduce_meaning : {A : Type 0} → (A × A → Result A ChainFault) → Meaning A → Meaning A
running_reduce_meaning f m = reduced f m.items m.ending

-- the lists that f gives for the items, one after the other, up to the first that fails, then the end
abbrev pub concatenated : {A B : Type 0} → (A → Result (List B) ChainFault) → List A → End → Meaning B
concatenated f [] e = meaning [] e
concatenated f (x ∷ xs) e = onward (f x) (λ ys. with_first ys (concatenated f xs e))

-- `transform`: the list of each item, one after the other
abbrev pub transform_meaning : {A B : Type 0} → (A → Result (List B) ChainFault) → Meaning A → Meaning B
transform_meaning f m = concatenated f m.items m.ending

-- the items of the inner chains, one after the other, up to and including the first chain that failed, then the end
abbrev pub flattened : {A B : Type 0} → (A → Result (ChainRun B) ChainFault) → List A → End → Meaning B
flattened f [] e = meaning [] e
flattened f (x ∷ xs) e = onward (f x) (λ inner. then_meaning (meaning_of inner) (flattened f xs e))

-- `flatMapConcat`: the chain of each item, one after the other
abbrev pub flat_map_meaning : {A B : Type 0} → (A → Result (ChainRun B) ChainFault) → Meaning A → Meaning B
flat_map_meaning f m = flattened f m.items m.ending

-- `zip`: the results of the pairs, then the end of the shorter side, or that of the left side if both are as long
abbrev pub zip_meaning : {A B C : Type 0} → (A × B → Result C ChainFault) → Meaning A → Meaning B → Meaning C
zip_meaning f m n = images f (zip m.items n.items) (cond (nat_le (length m.items) (length n.items)) m.ending n.ending)
