-- A mask instead of a remainder.
use Rattle.std.proofs.Common.{◌≡◌, ℕ, ◌+◌, ◌-◌, ◌*◌, ◌%◌, ◌^◌, ◌≤◌, sym, ap, subst, ◌∙◌, arith}
use Rattle.std.specs.Prelude.{bit_and}
use Rattle.std.specs.Int.{IsPowerOfTwo}
use Rattle.std.proofs.Math.Nat.{mod-lt}
use Rattle.std.proofs.lemmas.Nat.{and_mask}
use Rattle.flow_word_shared.specs.declared.view.RingStart.{RingStart}
use Rattle.flow_word_shared.specs.Rule.{cell_at}
use Rattle.flow_word_shared.proofs.Cells.{before}

pub mask_is : (n mask room : ℕ) → IsPowerOfTwo room → mask + 1 ≡ room → bit_and n mask ≡ n % room
mask_is n mask room power one = let k = power.0 in let is : room ≡ 2 ^ k = power.1 in let less : mask ≡ 2 ^ k - 1 = omega (arith, one, is) in
    ap (bit_and n) less ∙ and_mask n k ∙ ap (λ m. n % m) (sym is)

-- the cells of the position that a mask gives are within those of the flow
pub cells_fit : (n mask room width : ℕ) → IsPowerOfTwo room → mask + 1 ≡ room → bit_and n mask * width + width ≤ room * width
cells_fit n mask room width power one = let l = mod-lt n {m = room} (omega (arith, one)) in let far = before width (n % room) room l in
    subst (λ k. k * width + width ≤ room * width) (sym (mask_is n mask room power one)) far

-- the cells of a flow, by another number of words
pub cells_in : (n room width wide : ℕ) → 4 + room * width ≤ n → wide ≡ width → 4 + room * wide ≤ n
cells_in n room width wide all is = subst (λ w. 4 + room * w ≤ n) (sym is) all

-- the first cell of a position
pub cell_is : (start : RingStart) (n mask room width : ℕ) → IsPowerOfTwo room → mask + 1 ≡ room → start.room ≡ room → start.width ≡ width → 4 + bit_and n mask * width ≡ cell_at start n
cell_is start n mask room width power one same wide = λ i. 4 + (mask_is n mask room power one ∙ ap (λ m. n % m) (sym same)) i * sym wide i
