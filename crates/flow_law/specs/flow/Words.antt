-- Values of several words. Begin with `are_two` and `two_in`: a pair of packed values.
use Rattle.std.specs.Prelude.{◌≡◌, ℕ, ◌<◌, ◌≤◌, List, [], ◌∷◌, length, slice_index_or}
use Rattle.std.proofs.Common.{lit≤, ap, arith}

-- a list of one word, the pack of a value
abbrev pub are_one : (ℕ → Type 0) → List ℕ → Type 0
are_one packs ws = (length ws ≡ 1) × packs (slice_index_or ws 0 0)

abbrev pub one_in : {A : Type 0} → (ℕ → A) → List ℕ → A
one_in value_of ws = value_of (slice_index_or ws 0 0)

-- a list of two words, the packs of two values
abbrev pub are_two : (ℕ → Type 0) → (ℕ → Type 0) → List ℕ → Type 0
are_two first second ws = (length ws ≡ 2) × first (slice_index_or ws 0 0) × second (slice_index_or ws 1 0)

abbrev pub two_in : {A B : Type 0} → (ℕ → A) → (ℕ → B) → List ℕ → A × B
two_in first_of second_of ws = (first_of (slice_index_or ws 0 0), second_of (slice_index_or ws 1 0))

-- a list of three words, the packs of three values
abbrev pub are_three : (ℕ → Type 0) → (ℕ → Type 0) → (ℕ → Type 0) → List ℕ → Type 0
are_three first second third ws = (length ws ≡ 3) × first (slice_index_or ws 0 0) × second (slice_index_or ws 1 0) × third (slice_index_or ws 2 0)

abbrev pub three_in : {A B C : Type 0} → (ℕ → A) → (ℕ → B) → (ℕ → C) → List ℕ → A × B × C
three_in first_of second_of third_of ws = (first_of (slice_index_or ws 0 0), second_of (slice_index_or ws 1 0), third_of (slice_index_or ws 2 0))

-- a list of four words, the packs of four values
abbrev pub are_four : (ℕ → Type 0) → (ℕ → Type 0) → (ℕ → Type 0) → (ℕ → Type 0) → List ℕ → Type 0
are_four first second third fourth ws =
    (length ws ≡ 4) × first (slice_index_or ws 0 0) × second (slice_index_or ws 1 0) × third (slice_index_or ws 2 0) × fourth (slice_index_or ws 3 0)

abbrev pub four_in : {A B C D : Type 0} → (ℕ → A) → (ℕ → B) → (ℕ → C) → (ℕ → D) → List ℕ → A × B × C × D
four_in first_of second_of third_of fourth_of ws = (first_of (slice_index_or ws 0 0), second_of (slice_index_or ws 1 0), third_of (slice_index_or ws 2 0), fourth_of (slice_index_or ws 3 0))

-- ---- facts that the laws of `Words` are proved by

pub one_fits : (0 < 1) × (1 ≤ 4)
one_fits = (lit≤ tt, lit≤ tt)

pub two_fits : (0 < 2) × (2 ≤ 4)
two_fits = (lit≤ tt, lit≤ tt)

pub three_fits : (0 < 3) × (3 ≤ 4)
three_fits = (lit≤ tt, lit≤ tt)

pub four_fits : (0 < 4) × (4 ≤ 4)
four_fits = (lit≤ tt, lit≤ tt)

-- Two lists of the same length with the same words are the same.
pub same_one : (v w : List ℕ) → length v ≡ 1 → length w ≡ 1 → slice_index_or v 0 0 ≡ slice_index_or w 0 0 → v ≡ w
same_one [] w p q a = absurd (omega (arith, p))
same_one (x ∷ []) [] p q a = absurd (omega (arith, q))
same_one (x ∷ []) (y ∷ []) p q a = ap (λ n. n ∷ []) a
same_one (x ∷ []) (y ∷ z ∷ w) p q a = absurd (omega (arith, q))
same_one (x ∷ y ∷ v) w p q a = absurd (omega (arith, p))

pub same_two : (v w : List ℕ) → length v ≡ 2 → length w ≡ 2 → slice_index_or v 0 0 ≡ slice_index_or w 0 0 → slice_index_or v 1 0 ≡ slice_index_or w 1 0 → v ≡ w
same_two [] w p q a b = absurd (omega (arith, p))
same_two (x ∷ v) [] p q a b = absurd (omega (arith, q))
same_two (x ∷ v) (y ∷ w) p q a b = λ i. a i ∷ same_one v w (omega (arith, p)) (omega (arith, q)) b i

pub same_three : (v w : List ℕ) → length v ≡ 3 → length w ≡ 3 → slice_index_or v 0 0 ≡ slice_index_or w 0 0 → slice_index_or v 1 0 ≡ slice_index_or w 1 0 → slice_index_or v 2 0 ≡ slice_index_or w 2 0 → v ≡ w
same_three [] w p q a b c = absurd (omega (arith, p))
same_three (x ∷ v) [] p q a b c = absurd (omega (arith, q))
same_three (x ∷ v) (y ∷ w) p q a b c = λ i. a i ∷ same_two v w (omega (arith, p)) (omega (arith, q)) b c i

pub same_four : (v w : List ℕ) → length v ≡ 4 → length w ≡ 4 → slice_index_or v 0 0 ≡ slice_index_or w 0 0 → slice_index_or v 1 0 ≡ slice_index_or w 1 0 → slice_index_or v 2 0 ≡ slice_index_or w 2 0
    → slice_index_or v 3 0 ≡ slice_index_or w 3 0 → v ≡ w
same_four [] w p q a b c d = absurd (omega (arith, p))
same_four (x ∷ v) [] p q a b c d = absurd (omega (arith, q))
same_four (x ∷ v) (y ∷ w) p q a b c d = λ i. a i ∷ same_three v w (omega (arith, p)) (omega (arith, q)) b c d i

-- each value has one pack
abbrev pub Once : {A : Type 0} → (ℕ → Type 0) → (ℕ → A) → Type 0
Once packs value_of = (v w : ℕ) → packs v → packs w → value_of v ≡ value_of w → v ≡ w

pub one_once : {A : Type 0} (packs : ℕ → Type 0) (value_of : ℕ → A) → Once packs value_of → (v w : List ℕ) → are_one packs v → are_one packs w → one_in value_of v ≡ one_in value_of w → v ≡ w
one_once packs value_of once v w p q e = same_one v w p.0 q.0 (once _ _ p.1 q.1 e)

pub two_once : {A B : Type 0} (first second : ℕ → Type 0) (first_of : ℕ → A) (second_of : ℕ → B) → Once first first_of → Once second second_of
    → (v w : List ℕ) → are_two first second v → are_two first second w → two_in first_of second_of v ≡ two_in first_of second_of w → v ≡ w
two_once {A} {B} first second first_of second_of a b v w p q e =
    same_two v w p.0 q.0 (a _ _ p.1 q.1 (ap (λ (z : A × B). z.0) e)) (b _ _ p.2 q.2 (ap (λ (z : A × B). z.1) e))

pub three_once : {A B C : Type 0} (first second third : ℕ → Type 0) (first_of : ℕ → A) (second_of : ℕ → B) (third_of : ℕ → C) → Once first first_of → Once second second_of → Once third third_of
    → (v w : List ℕ) → are_three first second third v → are_three first second third w → three_in first_of second_of third_of v ≡ three_in first_of second_of third_of w → v ≡ w
three_once {A} {B} {C} first second third first_of second_of third_of a b c v w p q e =
    same_three v w p.0 q.0 (a _ _ p.1 q.1 (ap (λ (z : A × B × C). z.0) e)) (b _ _ p.2 q.2 (ap (λ (z : A × B × C). z.1) e)) (c _ _ p.3 q.3 (ap (λ (z : A × B × C). z.2) e))

pub four_once : {A B C D : Type 0} (first second third fourth : ℕ → Type 0) (first_of : ℕ → A) (second_of : ℕ → B) (third_of : ℕ → C) (fourth_of : ℕ → D)
    → Once first first_of → Once second second_of → Once third third_of → Once fourth fourth_of
    → (v w : List ℕ) → are_four first second third fourth v → are_four first second third fourth w → four_in first_of second_of third_of fourth_of v ≡ four_in first_of second_of third_of fourth_of w → v ≡ w
four_once {A} {B} {C} {D} first second third fourth first_of second_of third_of fourth_of a b c d v w p q e =
    same_four v w p.0 q.0 (a _ _ p.1 q.1 (ap (λ (z : A × B × C × D). z.0) e)) (b _ _ p.2 q.2 (ap (λ (z : A × B × C × D). z.1) e)) (c _ _ p.3 q.3 (ap (λ (z : A × B × C × D). z.2) e)) (d _ _ p.4 q.4 (ap (λ (z : A × B × C × D). z.3) e))
