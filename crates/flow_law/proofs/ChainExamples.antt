-- The definitions of chains compute what the worked examples say, as runs and as lists.
use Rattle.std.proofs.Common.{◌≡◌, ℕ, ◌+◌, ◌==◌, Bool, not, cond, List, [], ◌∷◌, Some, None, Result, Ok, Err, refl}
use Rattle.std.specs.Prelude.{nat_lt}
use Rattle.flow_law.specs.declared.chain.ChainFault.{ChainFault}
use Rattle.flow_law.specs.declared.chain.ChainFault.TheVariants.{Overflow, Source}
use Rattle.flow_law.specs.declared.chain.End.TheVariants.{Completed, Failed}
use Rattle.flow_law.specs.chain.ChainRun.{ChainRun, gives, pends, ends, entries, list_run}
use Rattle.flow_law.specs.chain.OperatorRuns.{map_run, filter_run, take_while_run, take_run, drop_run, drop_while_run, distinct_run, scan_run, running_reduce_run, zip_run, transform_run, flat_map_run}
use Rattle.flow_law.specs.chain.Chain.{meaning, meaning_of, map_meaning, filter_meaning, take_while_meaning, take_meaning, drop_meaning, drop_while_meaning, distinct_meaning, scan_meaning, running_reduce_meaning, transform_meaning, flat_map_meaning, zip_meaning}

-- sums up to the greatest i64
abbrev sum : ℕ × ℕ → Result ℕ ChainFault
sum (x, y) = cond (nat_lt 9223372036854775807 (x + y)) (Err Overflow) (Ok (x + y))

abbrev above : ℕ → ℕ → Bool
above k x = nat_lt k x

abbrev list : List ℕ → ChainRun ℕ
list = list_run

-- a pending turn, 5, a pending turn, then a fault of the source
abbrev script : ChainRun ℕ
script = pends (gives 5 (pends (ends (Failed (Source 7)))))

-- range 1 to 5, scan from 0, take 3
scanned : meaning_of (take_run 3 (gives 0 (scan_run sum 0 (list (1 ∷ 2 ∷ 3 ∷ 4 ∷ 5 ∷ []))))) ≡ meaning (0 ∷ 1 ∷ 3 ∷ []) Completed
scanned = refl

scanned-lists : take_meaning 3 (scan_meaning sum 0 (meaning (1 ∷ 2 ∷ 3 ∷ 4 ∷ 5 ∷ []) Completed)) ≡ meaning (0 ∷ 1 ∷ 3 ∷ []) Completed
scanned-lists = refl

-- what is not below 2 any more, and its sums so far
reduced : meaning_of (running_reduce_run sum None (drop_while_run (λ x. nat_lt x 2) (list (1 ∷ 5 ∷ 2 ∷ [])))) ≡ meaning (5 ∷ 7 ∷ []) Completed
reduced = refl

reduced-lists : running_reduce_meaning sum (drop_while_meaning (λ x. nat_lt x 2) (meaning (1 ∷ 5 ∷ 2 ∷ []) Completed)) ≡ meaning (5 ∷ 7 ∷ []) Completed
reduced-lists = refl

-- an item that passes is kept after one that does not
kept : entries (drop_while_run (λ x. nat_lt x 3) (list (1 ∷ 5 ∷ 2 ∷ []))) ≡ Some 5 ∷ Some 2 ∷ []
kept = refl

-- no item gives no result
reduced_empty : meaning_of (running_reduce_run sum None (list [])) ≡ meaning [] Completed
reduced_empty = refl

reduced_pending : entries (running_reduce_run sum None (pends (gives 5 (pends (gives 2 (ends Completed)))))) ≡ None ∷ Some 5 ∷ None ∷ Some 7 ∷ []
reduced_pending = refl

reduced_overflown : meaning_of (running_reduce_run sum None (list (1 ∷ 9223372036854775807 ∷ 2 ∷ []))) ≡ meaning (1 ∷ []) (Failed Overflow)
reduced_overflown = refl

zipped : meaning_of (zip_run sum (list (1 ∷ 2 ∷ [])) (list (10 ∷ 20 ∷ 30 ∷ []))) ≡ meaning (11 ∷ 22 ∷ []) Completed
zipped = refl

zipped-lists : zip_meaning sum (meaning (1 ∷ 2 ∷ []) Completed) (meaning (10 ∷ 20 ∷ 30 ∷ []) Completed) ≡ meaning (11 ∷ 22 ∷ []) Completed
zipped-lists = refl

-- the second item has no image
overflown : meaning_of (map_run (λ x. sum (x, 1)) (list (1 ∷ 9223372036854775807 ∷ 2 ∷ []))) ≡ meaning (2 ∷ []) (Failed Overflow)
overflown = refl

overflown-lists : map_meaning (λ x. sum (x, 1)) (meaning (1 ∷ 9223372036854775807 ∷ 2 ∷ []) Completed) ≡ meaning (2 ∷ []) (Failed Overflow)
overflown-lists = refl

pending : meaning_of script ≡ meaning (5 ∷ []) (Failed (Source 7))
pending = refl

-- the left side ends before the right one is asked again
left_first : meaning_of (zip_run sum (list (1 ∷ [])) script) ≡ meaning (6 ∷ []) Completed
left_first = refl

right_fails : meaning_of (zip_run sum (list (1 ∷ 2 ∷ [])) script) ≡ meaning (6 ∷ []) (Failed (Source 7))
right_fails = refl

-- for each pair the left side's pending turns come first, then the right side's
pending_pairs : entries (zip_run sum (pends (gives 1 (ends Completed))) script) ≡ None ∷ None ∷ Some 6 ∷ []
pending_pairs = refl

empty : meaning_of (list []) ≡ meaning [] Completed
empty = refl

-- each item that differs from the one before, and the number after it; of these what is above 1
spread : meaning_of (filter_run (above 1) (flat_map_run (λ x. Ok (list (x ∷ (x + 1) ∷ []))) (distinct_run (λ x y. x == y) None (list (1 ∷ 2 ∷ 2 ∷ [])))))
    ≡ meaning (2 ∷ 2 ∷ 3 ∷ []) Completed
spread = refl

spread-lists : filter_meaning (above 1) (flat_map_meaning (λ x. Ok (list (x ∷ (x + 1) ∷ []))) (distinct_meaning (λ x y. x == y) (meaning (1 ∷ 2 ∷ 2 ∷ []) Completed)))
    ≡ meaning (2 ∷ 2 ∷ 3 ∷ []) Completed
spread-lists = refl

-- each item and 10 more, without the first, up to 12
summed : meaning_of (take_while_run (λ x. not (x == 12)) (drop_run (transform_run (λ x. Ok (x ∷ (x + 10) ∷ [])) (list (1 ∷ 2 ∷ []))) 1)) ≡ meaning (11 ∷ 2 ∷ []) Completed
summed = refl

summed-lists : take_while_meaning (λ x. not (x == 12)) (drop_meaning 1 (transform_meaning (λ x. Ok (x ∷ (x + 10) ∷ [])) (meaning (1 ∷ 2 ∷ []) Completed))) ≡ meaning (11 ∷ 2 ∷ []) Completed
summed-lists = refl
