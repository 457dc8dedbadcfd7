-- The sums of an item and a list of entries, if all are in range.
use Rattle.std.proofs.Common.{◌≡◌, ◌<◌, ◌+◌, ℕ, ℤ, ◌+ℤ◌, Bool, true, false, cond, ◌&&◌, List, [], ◌∷◌, length, get_or, drop, drop-cons, add-one, map, Ok, Err, refl, ap, arith, w64}
use Rattle.std.proofs.lemmas.Grind.{common_steps}
use Rattle.std.specs.List.{list_all}
use mir.Val.{SFits}
use Rattle.flow_law.specs.declared.chain.ChainFault.TheVariants.{Overflow}
use Rattle.flow_law.specs.chain.ChainRun.{ChainRun, gives}
use Rattle.flow_law.specs.chain.OperatorRuns.{continued, prepended, transform_run}
use Rattle.flow_cold.specs.Numbers.{is_i64, sums}
use Rattle.flow_cold.specs.Operators.{with_sums}

first-fits : (b : Bool) (x d : ℤ) (ds : List ℤ) (r : ChainRun ℤ) → b && list_all (λ e. is_i64 (x +ℤ e)) ds ≡ true
    → (list_all (λ e. is_i64 (x +ℤ e)) ds ≡ true → prepended (map (λ e. x +ℤ e) ds) r ≡ with_sums x ds r)
    → gives (x +ℤ d) (prepended (map (λ e. x +ℤ e) ds) r) ≡ continued (cond b (Ok (x +ℤ d)) (Err Overflow)) (λ y. gives y (with_sums x ds r))
first-fits true x d ds r h rest = ap (gives (x +ℤ d)) (rest h)
first-fits false x d ds r h rest = cc

with_sums-fits : (x : ℤ) (ds : List ℤ) (r : ChainRun ℤ) → list_all (λ e. is_i64 (x +ℤ e)) ds ≡ true
    → prepended (map (λ e. x +ℤ e) ds) r ≡ with_sums x ds r
with_sums-fits x [] r h = refl
with_sums-fits x (d ∷ ds) r h = first-fits (is_i64 (x +ℤ d)) x d ds r h (with_sums-fits x ds r)

pub with_sums-begins : (x : ℤ) (ds : List ℤ) (r : ChainRun ℤ) → list_all (λ e. is_i64 (x +ℤ e)) ds ≡ true
    → transform_run (sums ds) (gives x r) ≡ with_sums x ds (transform_run (sums ds) r)
with_sums-begins x ds r fits = rw fits (with_sums-fits x ds (transform_run (sums ds) r) fits)

pub fits_i64 : (x : ℤ) → SFits w64 x → is_i64 x ≡ true
fits_i64 x fits = grind (arith, common_steps)

pub over_i64 : (x : ℤ) → (SFits w64 x → ⊥) → is_i64 x ≡ false
over_i64 x over = grind (arith, common_steps)

-- the list from i on begins with its entry at i
pub drop_here : (xs : List ℤ) (i : ℕ) (d : ℤ) → i < length xs → d ≡ get_or xs i d → drop i xs ≡ d ∷ drop (i + 1) xs
drop_here xs i d here is = rw (add-one, drop-cons xs i d, ← is)
