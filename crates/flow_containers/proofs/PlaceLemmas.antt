-- Remainders: the place of a position in a row, found from that of the last position.
use Rattle.std.proofs.Common.{◌≡◌, ◌≢◌, inl, inr, ℕ, ◌+◌, ◌-◌, ◌*◌, ◌/◌, ◌<◌, ◌≤◌, ◌%◌, refl, sym, ap, ◌∙◌, arith}
use Rattle.std.proofs.Math.Nat.{mod-eq_of_lt, add-mod_right, mod-add-mod, mod-add-div'}
use Rattle.std.proofs.lemmas.Nat.{mod_below, mod-mul-add}
use Rattle.std.proofs.lemmas.Bool.Decides.{leb_tells}

-- two numbers less than a row apart have the same remainder only if they are equal
pub same_place : (n p q : ℕ) → 0 < n → p ≤ q → q < p + n → p % n ≡ q % n → p ≡ q
same_place n p q pos le lt same =
    let e = q - p in
    let sum : p + e ≡ q = omega arith in
    let split : (p % n + e) % n ≡ p % n = mod-add-mod p n e ∙ ap (λ k. k % n) sum ∙ sym same in
    let low : p % n < n = mod_below p n pos in
    elim (leb_tells n (p % n + e)) [
      | inl over ↦
          let whole : (p % n + e - n) + n ≡ p % n + e = omega (arith, over.1) in
          let less : p % n + e - n < n = omega (arith, low) in
          let rest : p % n + e - n ≡ p % n = sym (mod-eq_of_lt less) ∙ sym (add-mod_right (p % n + e - n) n) ∙ ap (λ k. k % n) whole ∙ split in
          absurd (omega (arith, rest, over.1))
      | inr under ↦
          let rest : p % n + e ≡ p % n = sym (mod-eq_of_lt under.1) ∙ split in
          omega (arith, rest)
    ]

pub other_place : (n p q : ℕ) → 0 < n → p < q → q < p + n → p % n ≢ q % n
other_place n p q pos lt near same = absurd (omega (arith, same_place n p q pos (omega arith) near same))

pub same_place_in : (n low p q : ℕ) → 0 < n → low ≤ p → p < low + n → low ≤ q → q < low + n → p % n ≡ q % n → p ≡ q
same_place_in n low p q pos a b c d same =
    elim (leb_tells p q) [
      | inl le ↦ same_place n p q pos le.1 (omega arith) same
      | inr gt ↦ sym (same_place n q p pos (omega (arith, gt.1)) (omega arith) (sym same))
    ]

-- the place of a position whose distance to the last position is at most the last one's place
pub place_before : (n last p end : ℕ) → end < n → end ≡ last % n → p ≤ last → last - p ≤ end → end - (last - p) ≡ p % n
place_before n last p end low_end at le near =
    let whole : end + last / n * n ≡ last = ap (λ k. k + last / n * n) at ∙ mod-add-div' last n in
    let here : last / n * n + (end - (last - p)) ≡ p = omega (arith, whole) in
    let low : end - (last - p) < n = omega (arith, low_end) in
    sym (mod-mul-add (last / n) n (end - (last - p)) low) ∙ ap (λ k. k % n) here

-- the place of a position whose distance to the last position is greater than the last one's place
pub place_round : (n last p end : ℕ) → end < n → end ≡ last % n → p ≤ last → last < p + n → end < last - p → n - (last - p - end) ≡ p % n
place_round n last p end low_end at le near far =
    let d : ℕ = last - p - end in
    let low : n - d < n = omega (arith, far) in
    let whole : end + last / n * n ≡ last = ap (λ k. k + last / n * n) at ∙ mod-add-div' last n in
    let round : (n - d) + n ≡ (n - d) + n = refl in
    let here : p + d ≡ last / n * n = omega (arith, whole, far) in
    let rest : p + n ≡ last / n * n + (n - d) = omega (arith, here, near) in
    sym (mod-mul-add (last / n) n (n - d) low) ∙ ap (λ k. k % n) (sym rest) ∙ add-mod_right p n

-- the place after the last position's is the place of the next position
pub place_of_next : (n last end : ℕ) → end ≡ last % n → (end + 1) % n ≡ (last + 1) % n
place_of_next n last end at = ap (λ k. (k + 1) % n) at ∙ mod-add-mod last n 1
