-- The run of the chain of chains is that of the list of products: none of them is out of range.
use Rattle.std.proofs.Common.{◌≡◌, ℕ, zero, suc, ◌+◌, ◌*◌, ◌^◌, ◌<◌, ◌≤◌, true, ℤ, pos, ◌*ℤ◌, Result, Ok, refl, ap, ◌∙◌, arith}
use Rattle.std.specs.Prelude.{⊤}
use Rattle.std.proofs.lemmas.Grind.{common_steps}
use Rattle.std.specs.List.{flat_map}
use Rattle.flow_law.specs.declared.chain.ChainFault.{ChainFault}
use Rattle.flow_law.specs.declared.chain.End.TheVariants.{Completed}
use Rattle.flow_law.specs.chain.ChainRun.{ChainRun, gives, ends, list_run}
use Rattle.flow_law.specs.chain.OperatorRuns.{continued, flat_map_run, followed, map_run}
use Rattle.flow_operators.specs.Numbers.{is_i64, ranged}
use Rattle.flow_operators.specs.Sources.{count_up, range_run, span}
use Rattle.use_flows.specs.Products.{multiples, products}

-- the run of the inner chain of x
abbrev pub multiples_run : ℤ → Result (ChainRun ℤ) ChainFault
multiples_run x = Ok (map_run (λ y. ranged (x *ℤ y)) (range_run (pos 1) (pos 3)))

-- what the closure of the inner chain of x computes
abbrev pub readings : ℤ → ⊤ × (ℤ → Result ℤ ChainFault)
readings x = (tt, λ y. ranged (x *ℤ y))

fits : (m : ℕ) → m < 2 ^ 40 → is_i64 (pos m) ≡ true
fits m small = grind (arith, common_steps)

in_range : (m : ℕ) → m < 2 ^ 40 → ranged (pos m) ≡ Ok (pos m)
in_range m small = rw (fits m small) refl

three : (a b c : ℤ) (u v w : Result ℤ ChainFault) (q : ChainRun ℤ) → u ≡ Ok a → v ≡ Ok b → w ≡ Ok c
    → followed (continued u (λ y. gives y (continued v (λ z. gives z (continued w (λ k. gives k (ends Completed))))))) q ≡ gives a (gives b (gives c q))
three a b c u v w q is_a is_b is_c = rw (is_a, is_b, is_c) refl

first : (x : ℕ) (q : ChainRun ℤ) → x ≤ 2 ^ 32
    → continued (multiples_run (pos x)) (λ inner. followed inner q) ≡ gives (pos x *ℤ pos 1) (gives (pos x *ℤ pos 2) (gives (pos x *ℤ pos 3) q))
first x q small =
    three (pos (x * 1)) (pos (x * 2)) (pos (x * 3)) (ranged (pos (x * 1))) (ranged (pos (x * 2))) (ranged (pos (x * 3))) q
    (in_range (x * 1) (omega arith)) (in_range (x * 2) (omega arith)) (in_range (x * 3) (omega arith))

onwards : (n x : ℕ) → x + n ≤ 2 ^ 32 → flat_map_run multiples_run (list_run (count_up (pos x) n)) ≡ list_run (flat_map multiples (count_up (pos x) n))
onwards zero x small = refl
onwards (suc n) x small =
    first x (flat_map_run multiples_run (list_run (count_up (pos (x + 1)) n))) (omega arith)
    ∙ ap (λ q. gives (pos x *ℤ pos 1) (gives (pos x *ℤ pos 2) (gives (pos x *ℤ pos 3) q))) (onwards n (x + 1) (omega arith))

numbers : (n : ℕ) → span (pos 1) (pos n) ≡ n
numbers zero = refl
numbers (suc n) = grind (arith, common_steps)

pub products_run : (n : ℕ) → n < 2 ^ 32 → flat_map_run multiples_run (range_run (pos 1) (pos n)) ≡ list_run (products n)
products_run n small = ap (λ k. flat_map_run multiples_run (list_run (count_up (pos 1) k))) (numbers n) ∙ onwards n 1 (omega arith)
