-- Numbers in a row, and the numbers of a list that are in a row.
use Rattle.std.proofs.Common.{◌≡◌, ◌≢◌, ℕ, zero, suc, ◌+◌, ◌*◌, ◌<◌, ◌≤◌, leb, ltb, Bool, true, false, cond, arith, List, [], ◌∷◌, ◌++◌, refl, sym, ap, ◌∙◌}
use Rattle.std.specs.Prelude.{flat_map, filter}
use Rattle.std.specs.List.{AllByRecursion}
use Rattle.std.proofs.lemmas.Bool.{le-leb, lt-ltb, le-ltb, lt-leb, ltb-true, ltb-false, and_from, and_left, and_right}
use Rattle.std.proofs.lemmas.List.Elements.{filter-append}
use Rattle.std.proofs.Math.Nat.{mul-le-mul_right}
use Rattle.std.proofs.lemmas.Nat.{mul-le}
use Rattle.flow_law.proofs.DoneLemmas.{split}
use Rattle.flow_program.specs.Crowds.{is_within}
use Rattle.flow_program.specs.Numbers.{numbers_from}

filter_yes : {X : Type 0} (p : X → Bool) (x : X) → p x ≡ true → filter p (x ∷ []) ≡ x ∷ []
filter_yes p x e = ap (λ b. cond b (x ∷ []) []) e

filter_no : {X : Type 0} (p : X → Bool) (x : X) → p x ≡ false → filter p (x ∷ []) ≡ []
filter_no p x e = ap (λ b. cond b (x ∷ []) []) e

-- all numbers of a row pass a test, or none does
all_pass : (p : ℕ → Bool) (a n : ℕ) → ((j : ℕ) → j < n → p (a + j) ≡ true) → filter p (numbers_from a n) ≡ numbers_from a n
all_pass p a zero h = refl
all_pass p a (suc n) h =
    filter-append p (numbers_from a n) ((a + n) ∷ [])
    ∙ ap (λ l. l ++ filter p ((a + n) ∷ [])) (all_pass p a n (λ j l. h j (omega arith)))
    ∙ ap (λ l. numbers_from a n ++ l) (filter_yes p (a + n) (h n (omega arith)))

none_passes : (p : ℕ → Bool) (a n : ℕ) → ((j : ℕ) → j < n → p (a + j) ≡ false) → filter p (numbers_from a n) ≡ []
none_passes p a zero h = refl
none_passes p a (suc n) h =
    filter-append p (numbers_from a n) ((a + n) ∷ [])
    ∙ ap (λ l. l ++ filter p ((a + n) ∷ [])) (none_passes p a n (λ j l. h j (omega arith)))
    ∙ filter_no p (a + n) (h n (omega arith))

-- all numbers of a row are in it
pub own_row : (a n : ℕ) → filter (is_within a n) (numbers_from a n) ≡ numbers_from a n
own_row a n = all_pass (is_within a n) a n (λ j l. and_from (leb a (a + j)) (ltb (a + j) (a + n)) (le-leb a (a + j) (omega arith)) (lt-ltb (a + j) (a + n) (omega arith)))

-- the rows of two emitters have nothing in common
pub other_row : (i k n : ℕ) → k ≢ i → filter (is_within (i * n) n) (numbers_from (k * n) n) ≡ []
other_row i k n ne = split (ltb k i) (λ b. filter (is_within (i * n) n) (numbers_from (k * n) n) ≡ []) (λ t. before (ltb-true k i t)) (λ t. behind (let h = ltb-false k i t in omega arith))
  where
    before : k < i → filter (is_within (i * n) n) (numbers_from (k * n) n) ≡ []
    before l =
        let h : suc k * n ≤ i * n = mul-le-mul_right n (let z : suc k ≤ i = omega arith in z) in let e : suc k * n ≡ n + k * n = omega arith in
        none_passes (is_within (i * n) n) (k * n) n (λ j m. and_left (leb (i * n) (k * n + j)) (ltb (k * n + j) (i * n + n)) (lt-leb (i * n) (k * n + j) (omega arith)))

    behind : i < k → filter (is_within (i * n) n) (numbers_from (k * n) n) ≡ []
    behind l =
        let h : suc i * n ≤ k * n = mul-le-mul_right n (let z : suc i ≤ k = omega arith in z) in let e : suc i * n ≡ n + i * n = omega arith in
        none_passes (is_within (i * n) n) (k * n) n (λ j m. and_right (leb (i * n) (k * n + j)) (ltb (k * n + j) (i * n + n)) (le-ltb (k * n + j) (i * n + n) (omega arith)))

-- the row of the next emitter begins where one ends, and it fits 64 bits
pub row_next : (k n : ℕ) → k * n + n ≡ (k + 1) * n
row_next k n = let z : suc k ≡ k + 1 = omega arith in let e : k * n + n ≡ suc k * n = omega arith in e ∙ ap (λ m. m * n) z

pub row_fits : (k n : ℕ) → k + 1 < 4294967296 → n < 4294967296 → k * n + n ≤ 18446744065119617025
row_fits k n a b = let m : suc k * n ≤ 4294967295 * 4294967295 = mul-le (suc k) n 4294967295 4294967295 (omega arith) (omega arith) in let e : suc k * n ≡ n + k * n = omega arith in omega arith

-- what passes a test in lists that are joined
pub filter_flat : {X Y : Type 0} (p : Y → Bool) (f : X → List Y) (xs : List X) → filter p (flat_map f xs) ≡ flat_map (λ x. filter p (f x)) xs
filter_flat p f [] = refl
filter_flat p f (x ∷ xs) = filter-append p (f x) (flat_map f xs) ∙ ap (λ l. filter p (f x) ++ l) (filter_flat p f xs)

left_empty : {X : Type 0} (xs ys : List X) → xs ++ ys ≡ [] → xs ≡ []
left_empty [] ys e = refl
left_empty (x ∷ xs) ys e = cc

-- if the whole is empty, so is each part
pub each_empty : {X Y : Type 0} (f : X → List Y) (xs : List X) → flat_map f xs ≡ [] → AllByRecursion (λ x. f x ≡ []) xs
each_empty f [] e = tt
each_empty f (x ∷ xs) e = let h : f x ≡ [] = left_empty (f x) (flat_map f xs) e in
    (h, each_empty f xs (sym (ap (λ l. l ++ flat_map f xs) h) ∙ e))
