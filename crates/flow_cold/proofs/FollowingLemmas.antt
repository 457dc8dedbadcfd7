-- The `count` numbers from an item on, if the count is not 0.
use Rattle.std.proofs.Common.{◌≡◌, ℕ, zero, suc, ◌-◌, ℤ, pos, ◌+ℤ◌, Ok, Err, refl, arith}
use Rattle.std.proofs.lemmas.Grind.{common_steps}
use Rattle.flow_law.specs.declared.chain.ChainFault.{ChainFault}
use Rattle.flow_cold.specs.Numbers.{ranged, following}
use Rattle.flow_operators.specs.Sources.{range_run}

pub following_ok : (count : ℕ) (x last : ℤ) → (count ≡ 0 → ⊥) → Ok last ≡ ranged (x +ℤ pos (count - 1)) → following count x ≡ Ok (range_run x last)
following_ok zero x last some is = absurd (some refl)
following_ok (suc n) x last some is = grind (arith, common_steps)

pub following_err : (count : ℕ) (x : ℤ) (fault : ChainFault) → (count ≡ 0 → ⊥) → Err fault ≡ ranged (x +ℤ pos (count - 1)) → following count x ≡ Err fault
following_err zero x fault some is = absurd (some refl)
following_err (suc n) x fault some is = grind (arith, common_steps)
