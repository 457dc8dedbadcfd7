-- Packs of options and pairs, and proofs that each value has only one pack. Begin with `packs_option` and `packs_pair`.
use Rattle.std.specs.Prelude.{◌≡◌, ◌≢◌, ℕ, ◌+◌, ◌*◌, ◌/◌, ◌%◌, ◌^◌, ◌<◌, ◌==◌, is_some, Option, Some, None}
use Rattle.std.specs.Char.{IsScalar}
use Rattle.std.specs.Int.{cast_signed, cast_unsigned}
use Rattle.std.specs.Option.{option_map_or}
use Rattle.std.proofs.Common.{zero, suc, lit≤, zero-le, inl, inr, refl, sym, ap, subst, ◌∙◌, ⊎_elim}
use Rattle.std.proofs.Math.Nat.{lt_of_lt_of_le, lt_of_le_of_lt, le-pred_of_lt, le_antisymm, div-add-mod, div-lt_iff_lt-mul}
use Rattle.std.proofs.Math.Numerals.{lt_of_le_of_ne}
use Rattle.std.proofs.Math.Pow.{pow_mono, pow-lt}
use Rattle.std.proofs.lemmas.Bool.{eq-eqb, eqb-true, false≢true, true≢false}
use Rattle.std.proofs.lemmas.Bool.Decides.{eqb_tells}
use Rattle.std.proofs.lemmas.Nat.{pow_pos}
use Rattle.std.proofs.lemmas.Int.{of_z-to_z}
use lib.Utf8.{scalar_cases}
use mir.Syntax.{Width}
use mir.Val.{bits}

-- which words are packs of options: 0 is the pack of None, and the pack of Some is one more than that of its value
abbrev pub packs_option : (ℕ → Type 0) → ℕ → Type 0
packs_option packs zero = Unit {0}
packs_option packs (suc w) = packs w

-- the option in a word: 0 for None, else the value of the word less 1
abbrev pub option_of : {T : Type 0} → (ℕ → T) → ℕ → Option T
option_of value_of zero = None
option_of value_of (suc w) = Some (value_of w)

-- which words are packs of pairs: the first value is in the upper half of the word, the second in the lower one
abbrev pub packs_pair : (ℕ → Type 0) → (ℕ → Type 0) → ℕ → Type 0
packs_pair first second w = first (w / 2 ^ 32) × second (w % 2 ^ 32)

-- the pair in a word, 32 bits each
abbrev pub pair_of : {A B : Type 0} → (ℕ → A) → (ℕ → B) → ℕ → A × B
pair_of first second w = (first (w / 2 ^ 32), second (w % 2 ^ 32))

-- ---- facts that the laws of `Packed` are proved by

-- what fits 32 bits fits a word
pub below_word : (w : ℕ) → w < 2 ^ 32 → w < 2 ^ 64
below_word w h = lt_of_lt_of_le h (pow_mono {i = 32} {j = 64} (lit≤ tt))

-- 16 bits fit 32
pub short_below : (w : ℕ) → w < 2 ^ 16 → w < 2 ^ 32
short_below w h = lt_of_lt_of_le h (pow_mono {i = 16} {j = 32} (lit≤ tt))

-- 8 bits fit 32
pub byte_below : (w : ℕ) → w < 2 ^ 8 → w < 2 ^ 32
byte_below w h = lt_of_lt_of_le h (pow_mono {i = 8} {j = 32} (lit≤ tt))

-- one bit fits 32
pub bit_below : (w : ℕ) → w < 2 → w < 2 ^ 32
bit_below w h = lt_of_lt_of_le h (pow_mono {i = 1} {j = 32} (lit≤ tt))

-- the number of a character fits 32 bits
pub scalar_below : (w : ℕ) → IsScalar w → w < 2 ^ 32
scalar_below w h = ⊎_elim (λ low. lt_of_lt_of_le low (lit≤ tt)) (λ high. lt_of_lt_of_le high.1 (lit≤ tt)) (scalar_cases w h)

-- 0 fits 32 bits
pub none_below : (w : ℕ) → w ≡ 0 → w < 2 ^ 32
none_below w h = subst (λ n. n < 2 ^ 32) (sym h) (pow_pos 32)

-- a bit that is not 1 is 0
bit_none : (v : ℕ) → v < 2 → v ≢ 1 → v ≡ 0
bit_none v p other = le_antisymm (le-pred_of_lt (lt_of_le_of_ne (le-pred_of_lt p) other)) zero-le

-- a boolean has one pack
pub bit_once : (v w : ℕ) → v < 2 → w < 2 → (v == 1) ≡ (w == 1) → v ≡ w
bit_once v w p q e =
    elim (eqb_tells v 1) [
      | inl one ↦ one.1 ∙ sym (eqb-true w 1 (sym e ∙ one.0))
      | inr none ↦ bit_none v p none.1 ∙ sym (bit_none w q (λ is. none.1 (eqb-true v 1 (e ∙ eq-eqb w 1 is))))
    ]

-- a signed number has one pattern of bits
pub signed_once : (width : Width) (v w : ℕ) → v < 2 ^ bits width → w < 2 ^ bits width → cast_signed width v ≡ cast_signed width w → v ≡ w
signed_once width v w p q e = sym (of_z-to_z width v p) ∙ (ap (cast_unsigned width) e ∙ of_z-to_z width w q)

module _ {T : Type 0} (packs : ℕ → Type 0) (value_of : ℕ → T) where
  -- the pack of an option fits a word
  pub option_fits : ((w : ℕ) → packs w → w < 2 ^ 32) → (w : ℕ) → packs_option packs w → w < 2 ^ 64
  option_fits fits zero h = pow_pos 64
  option_fits fits (suc w) h = lt_of_le_of_lt (fits w h) (pow-lt {i = 32} {j = 64} (lit≤ tt))

  -- an option has one pack, if its value has
  pub option_once : ((v w : ℕ) → packs v → packs w → value_of v ≡ value_of w → v ≡ w) → (v w : ℕ) → packs_option packs v → packs_option packs w → option_of value_of v ≡ option_of value_of w → v ≡ w
  option_once once zero zero p q e = refl
  option_once once zero (suc w) p q e = absurd (false≢true (ap is_some e))
  option_once once (suc v) zero p q e = absurd (true≢false (ap is_some e))
  option_once once (suc v) (suc w) p q e = ap suc (once v w p q (ap (λ o. option_map_or (λ x. x) o (value_of v)) e))

module _ {A B : Type 0} (first second : ℕ → Type 0) (first_of : ℕ → A) (second_of : ℕ → B) where
  -- the pack of a pair fits a word
  pub pair_fits : ((w : ℕ) → first w → w < 2 ^ 32) → (w : ℕ) → packs_pair first second w → w < 2 ^ 64
  pair_fits fits w h = (div-lt_iff_lt-mul {k = 2 ^ 32} {x = w} {y = 2 ^ 32} (pow_pos 32)).0 (fits (w / 2 ^ 32) h.0)

  -- a pair has one pack, if each side has
  pub pair_once : ((v w : ℕ) → first v → first w → first_of v ≡ first_of w → v ≡ w) → ((v w : ℕ) → second v → second w → second_of v ≡ second_of w → v ≡ w)
      → (v w : ℕ) → packs_pair first second v → packs_pair first second w → pair_of first_of second_of v ≡ pair_of first_of second_of w → v ≡ w
  pair_once one other v w p q e =
      let high = one (v / 2 ^ 32) (w / 2 ^ 32) p.0 q.0 (ap (λ (z : A × B). z.0) e) in
      let low = other (v % 2 ^ 32) (w % 2 ^ 32) p.1 q.1 (ap (λ (z : A × B). z.1) e) in
      sym (div-add-mod v (2 ^ 32)) ∙ (λ i. 2 ^ 32 * high i + low i) ∙ div-add-mod w (2 ^ 32)
