-- What is kept for each caller, in a list after one place was set.
use Rattle.std.proofs.Common.{◌≡◌, ◌≢◌, ℕ, suc, zero, ◌+◌, ◌<◌, List, [], ◌∷◌, length, set, Option, Some, None, refl, sym, ap, ◌∙◌, arith}
use Rattle.std.specs.Prelude.{slice_get}
use Rattle.std.proofs.lemmas.Option.{slice_get_within, slice_get-get_or, same_Some}
use Rattle.flow_check.specs.Subscribed.{kept_in, kept_of, present, none_subscribed}
use Rattle.flow_check.proofs.Places.{get-set_same, get-set_other}

module _ {A : Type 0} where
  pub kept_at : (xs : List (Option A)) (i : ℕ) → i < length xs → slice_get xs i ≡ Some (kept_of i xs)
  kept_at xs i l = let e = slice_get-get_or xs i None l in e ∙ ap Some (sym (ap kept_in e))

  pub kept_within : (xs : List (Option A)) (i : ℕ) (x : A) → kept_of i xs ≡ Some x → i < length xs
  kept_within xs i x e = by (slice_get xs i) refl e
    where
      by : (o : Option (Option A)) → slice_get xs i ≡ o → kept_in o ≡ Some x → i < length xs
      by (Some kept) is e = slice_get_within xs i kept is
      by None is e = absurd (cc)

  pub kept-set_same : (xs : List (Option A)) (i : ℕ) (x : Option A) → i < length xs → kept_of i (set xs i x) ≡ x
  kept-set_same xs i x l = ap kept_in (get-set_same xs i x l)

  pub kept-set_other : (xs : List (Option A)) (i j : ℕ) (x : Option A) → i ≢ j → j < length xs → kept_of j (set xs i x) ≡ kept_of j xs
  kept-set_other xs i j x apart l = ap kept_in (get-set_other xs i j x apart l)

  pub present-set_more : (xs : List (Option A)) (i : ℕ) (x : A) → slice_get xs i ≡ Some None → present (set xs i (Some x)) ≡ present xs + 1
  present-set_more [] i x h = let past = slice_get_within [] i None h in absurd (omega arith)
  present-set_more (None ∷ xs) zero x h = refl
  present-set_more (Some y ∷ xs) zero x h = let e = same_Some (Some y) None h in absurd (cc)
  present-set_more (None ∷ xs) (suc i) x h = present-set_more xs i x h
  present-set_more (Some y ∷ xs) (suc i) x h = ap (λ n. n + 1) (present-set_more xs i x h)

  pub present-set_same : (xs : List (Option A)) (i : ℕ) (x y : A) → slice_get xs i ≡ Some (Some y) → present (set xs i (Some x)) ≡ present xs
  present-set_same [] i x y h = let past = slice_get_within [] i (Some y) h in absurd (omega arith)
  present-set_same (None ∷ xs) zero x y h = let e = same_Some None (Some y) h in absurd (cc)
  present-set_same (Some z ∷ xs) zero x y h = refl
  present-set_same (None ∷ xs) (suc i) x y h = present-set_same xs i x y h
  present-set_same (Some z ∷ xs) (suc i) x y h = ap (λ n. n + 1) (present-set_same xs i x y h)

  pub present-set_fewer : (xs : List (Option A)) (i : ℕ) (y : A) → slice_get xs i ≡ Some (Some y) → present (set xs i None) + 1 ≡ present xs
  present-set_fewer [] i y h = let past = slice_get_within [] i (Some y) h in absurd (omega arith)
  present-set_fewer (None ∷ xs) zero y h = let e = same_Some None (Some y) h in absurd (cc)
  present-set_fewer (Some z ∷ xs) zero y h = refl
  present-set_fewer (None ∷ xs) (suc i) y h = present-set_fewer xs i y h
  present-set_fewer (Some z ∷ xs) (suc i) y h = ap (λ n. n + 1) (present-set_fewer xs i y h)

-- ---- before any call

pub present-none : {C : Type 0} (A : Type 0) (callers : List C) → present (none_subscribed {A = A} callers) ≡ 0
present-none A [] = refl
present-none A (c ∷ callers) = present-none A callers

pub kept-none : {C : Type 0} (A : Type 0) (callers : List C) (i : ℕ) → kept_of i (none_subscribed {A = A} callers) ≡ None
kept-none A [] zero = refl
kept-none A [] (suc i) = refl
kept-none A (c ∷ callers) zero = refl
kept-none A (c ∷ callers) (suc i) = kept-none A callers i
