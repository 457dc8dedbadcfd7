-- Lists in which each element stands once for each of its parts.
use Rattle.std.proofs.Common.{◌≡◌, ℕ, suc, zero, ◌+◌, ◌<◌, List, [], ◌∷◌, ◌++◌, drop, replicate, Some, None, refl, sym, ap, ◌∙◌, arith, add-one}
use Rattle.std.specs.Prelude.{slice_get}
use Rattle.std.specs.List.{flat_map}

module _ {A : Type 0} where
  at_front : (i : ℕ) (xs ys : List A) (x : A) → drop i xs ≡ x ∷ ys → slice_get xs i ≡ Some x
  at_front zero [] ys x e = absurd (cc)
  at_front zero (y ∷ xs) ys x e = cc
  at_front (suc i) [] ys x e = absurd (cc)
  at_front (suc i) (y ∷ xs) ys x e = at_front i xs ys x e

  at_end : (i : ℕ) (xs : List A) → drop i xs ≡ [] → slice_get xs i ≡ None
  at_end zero [] e = refl
  at_end zero (y ∷ xs) e = absurd (cc)
  at_end (suc i) [] e = refl
  at_end (suc i) (y ∷ xs) e = at_end i xs e

  after_front : (i : ℕ) (xs ys : List A) (x : A) → drop i xs ≡ x ∷ ys → drop (suc i) xs ≡ ys
  after_front zero [] ys x e = absurd (cc)
  after_front zero (y ∷ xs) ys x e = cc
  after_front (suc i) [] ys x e = absurd (cc)
  after_front (suc i) (y ∷ xs) ys x e = after_front i xs ys x e

  after_end : (i : ℕ) (xs : List A) → drop i xs ≡ [] → drop (suc i) xs ≡ []
  after_end zero [] e = refl
  after_end zero (y ∷ xs) e = absurd (cc)
  after_end (suc i) [] e = refl
  after_end (suc i) (y ∷ xs) e = after_end i xs e

  front_of : (i : ℕ) (xs : List A) (x : A) → slice_get xs i ≡ Some x → drop i xs ≡ x ∷ drop (suc i) xs
  front_of zero [] x e = absurd (cc)
  front_of zero (y ∷ xs) x e = cc
  front_of (suc i) [] x e = absurd (cc)
  front_of (suc i) (y ∷ xs) x e = front_of i xs x e

  none_left : (i : ℕ) (xs : List A) → slice_get xs i ≡ None → drop i xs ≡ []
  none_left zero [] e = refl
  none_left zero (y ∷ xs) e = absurd (cc)
  none_left (suc i) [] e = refl
  none_left (suc i) (y ∷ xs) e = none_left i xs e

  -- the next of n copies
  copy_left : (n p : ℕ) (x : A) (xs : List A) → p < n → drop p (replicate n x ++ xs) ≡ x ∷ drop (suc p) (replicate n x ++ xs)
  copy_left zero p x xs l = absurd (omega arith)
  copy_left (suc n) zero x xs l = refl
  copy_left (suc n) (suc p) x xs l = copy_left n p x xs (omega arith)

  no_copy_left : (n : ℕ) (x : A) (xs : List A) → drop n (replicate n x ++ xs) ≡ xs
  no_copy_left zero x xs = refl
  no_copy_left (suc n) x xs = no_copy_left n x xs

module _ {A : Type 0} (count : A → ℕ) where
  abbrev row : List A → List A
  row = flat_map (λ x. replicate (count x) x)

  module _ (xs : List A) (turns k p : ℕ) (x : A) (left : drop turns (row xs) ≡ drop p (row (drop k xs))) (here : slice_get xs k ≡ Some x) (within : p < count x) where
    left_here : drop turns (row xs) ≡ x ∷ drop (suc p) (replicate (count x) x ++ row (drop (suc k) xs))
    left_here = left ∙ ap (λ ys. drop p (row ys)) (front_of k xs x here) ∙ copy_left (count x) p x (row (drop (suc k) xs)) within

    pub next_here : slice_get (row xs) turns ≡ Some x
    next_here = at_front turns (row xs) (drop (suc p) (replicate (count x) x ++ row (drop (suc k) xs))) x left_here

    pub part_left : drop (turns + 1) (row xs) ≡ drop (p + 1) (row (drop k xs))
    part_left = ap (λ n. drop n (row xs)) (add-one turns) ∙ after_front turns (row xs) (drop (suc p) (replicate (count x) x ++ row (drop (suc k) xs))) x left_here
        ∙ sym (ap (λ n. drop n (row (drop k xs))) (add-one p) ∙ ap (λ ys. drop (suc p) (row ys)) (front_of k xs x here))

    pub call_left : p + 1 ≡ count x → drop (turns + 1) (row xs) ≡ drop 0 (row (drop (k + 1) xs))
    call_left last = ap (λ n. drop n (row xs)) (add-one turns) ∙ after_front turns (row xs) (drop (suc p) (replicate (count x) x ++ row (drop (suc k) xs))) x left_here
        ∙ ap (λ n. drop n (replicate (count x) x ++ row (drop (suc k) xs))) (sym (add-one p) ∙ last) ∙ no_copy_left (count x) x (row (drop (suc k) xs)) ∙ ap (λ n. row (drop n xs)) (sym (add-one k))

  module _ (xs : List A) (turns k p : ℕ) (left : drop turns (row xs) ≡ drop p (row (drop k xs))) (past : slice_get xs k ≡ None) where
    no_more : drop turns (row xs) ≡ []
    no_more = left ∙ ap (λ ys. drop p (row ys)) (none_left k xs past) ∙ nothing p where
      nothing : (n : ℕ) → ◌≡◌ {A = List A} (drop n []) []
      nothing zero = refl
      nothing (suc n) = refl

    pub none_here : slice_get (row xs) turns ≡ None
    none_here = at_end turns (row xs) no_more

    pub none_left_after : drop (turns + 1) (row xs) ≡ drop p (row (drop k xs))
    none_left_after = ap (λ n. drop n (row xs)) (add-one turns) ∙ after_end turns (row xs) no_more ∙ sym no_more ∙ left
