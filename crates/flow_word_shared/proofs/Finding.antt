-- What was found in the cells stays found while the buffer moves on. Begin with `found_grows`, and `kept_packs`: what a reader may give.
use Rattle.flow_word_shared.proofs.Cells.{slice_get_left}
use Rattle.std.proofs.Common.{◌≡◌, ℕ, zero, suc, ◌+◌, ◌<◌, ◌≤◌, List, [], ◌∷◌, ◌++◌, drop, length, get_or, refl, inl, inr, sym, ap, subst, ◌∙◌, append-nil, length-append, arith}
use Rattle.std.specs.Prelude.{min, take}
use Rattle.std.proofs.lemmas.Bool.{cases_lt}
use Rattle.std.specs.List.{AllByRecursion}
use Rattle.flow_word_shared.specs.Rule.{HasValue}
use Rattle.flow_word_shared.specs.Steps.{IsFound, AreFound}

module _ {T : Type 0} (packs : List ℕ → Type 0) (value_of : List ℕ → T) (c : ℕ) where
  abbrev Found : List T → ℕ → List (List ℕ) → Type 0
  Found = AreFound packs value_of c

  pub found_grows : (log more : List T) (p : ℕ) (ws : List (List ℕ)) → Found log p ws → Found (log ++ more) p ws
  found_grows log more p [] f = tt
  found_grows log more p (w ∷ ws) f = let longer = length-append log more in (
    record {
      there = omega (arith, f.0.there, longer);
      value = λ kept. let v = f.0.value (omega (arith, kept, longer)) in (v.0, slice_get_left log more p f.0.there ∙ v.1);
    },
    found_grows log more (p + 1) ws f.1,
  )

  pub found_more : (log : List T) (p : ℕ) (ws : List (List ℕ)) (w : List ℕ) → Found log p ws → IsFound packs value_of c log (p + length ws) w → Found log p (ws ++ w ∷ [])
  found_more log p [] w f one = (subst (λ q. IsFound packs value_of c log q w) (let e : p + 0 ≡ p = omega arith in e) one, tt)
  found_more log p (v ∷ vs) w f one = (f.0, found_more log (p + 1) vs w f.1 (subst (λ q. IsFound packs value_of c log q w) (let e : p + suc (length vs) ≡ p + 1 + length vs = omega arith in e) one))

  pub found_drop : (log : List T) (d p : ℕ) (ws : List (List ℕ)) → Found log p ws → Found log (p + d) (drop d ws)
  found_drop log zero p ws f = subst (λ q. Found log q ws) (let e : p ≡ p + 0 = omega arith in e) f
  found_drop log (suc d) p [] f = tt
  found_drop log (suc d) p (w ∷ ws) f = subst (λ q. Found log q (drop d ws)) (let e : p + 1 + d ≡ p + suc d = omega arith in e) (found_drop log d (p + 1) ws f.1)

  pub found_within : (log : List T) (p : ℕ) (ws : List (List ℕ)) → Found log p ws → p ≤ length log → p + length ws ≤ length log
  found_within log p [] f in_log = omega arith
  found_within log p (w ∷ ws) f in_log = omega (arith, found_within log (p + 1) ws f.1 (omega (arith, f.0.there)))

  -- the words pack the values from this position on
  abbrev pub PackFrom : List T → ℕ → List (List ℕ) → Type 0
  PackFrom log p [] = Unit {0}
  PackFrom log p (w ∷ ws) = HasValue packs value_of log p w × PackFrom log (p + 1) ws

  pub kept_packs : (log : List T) (p : ℕ) (ws : List (List ℕ)) → Found log p ws → length log ≤ p + c → PackFrom log p ws
  kept_packs log p [] f kept = tt
  kept_packs log p (w ∷ ws) f kept = (f.0.value kept, kept_packs log (p + 1) ws f.1 (omega (arith, kept)))

  pub pack_left : (log : List T) (p : ℕ) (ws rest : List (List ℕ)) → PackFrom log p (ws ++ rest) → PackFrom log p ws
  pack_left log p [] rest f = tt
  pack_left log p (w ∷ ws) rest f = (f.0, pack_left log (p + 1) ws rest f.1)

  pub all_packed : (log : List T) (p : ℕ) (ws : List (List ℕ)) → PackFrom log p ws → AllByRecursion packs ws
  all_packed log p [] f = tt
  all_packed log p (w ∷ ws) f = (f.0.0, all_packed log (p + 1) ws f.1)

-- ---- the first of the values that the buffer still has

pub first_is : (l : List (List ℕ)) → (rest : List (List ℕ)) × (l ≡ take 1 l ++ rest)
first_is [] = ([], refl)
first_is (w ∷ ws) = (ws, refl)

pub all_is : (l : List (List ℕ)) → (rest : List (List ℕ)) × (l ≡ l ++ rest)
all_is l = ([], sym (append-nil l))

pub first_kept : (ws : List (List ℕ)) (d : ℕ) (w : List ℕ) → d < length ws → w ≡ get_or ws d w → take 1 (drop d ws) ≡ w ∷ []
first_kept [] d w less is = absurd (omega arith)
first_kept (v ∷ ws) zero w less is = ap (λ n. n ∷ []) (sym is)
first_kept (v ∷ ws) (suc d) w less is = first_kept ws d w (omega arith) is

pub none_kept : (ws : List (List ℕ)) (d : ℕ) → length ws ≤ d → drop d ws ≡ []
none_kept [] zero l = refl
none_kept [] (suc d) l = refl
none_kept (v ∷ ws) zero l = absurd (omega arith)
none_kept (v ∷ ws) (suc d) l = none_kept ws d (omega arith)

pub min_kept : (ws : List (List ℕ)) (k n : ℕ) → n ≡ min k (length ws) → drop n ws ≡ drop k ws
min_kept ws k n is = elim (cases_lt k (length ws)) as (λ _. drop n ws ≡ drop k ws) [
  | inl less ↦ ap (λ i. drop i ws) (let e : n ≡ k = omega (arith, is, less) in e)
  | inr past ↦ none_kept ws n (omega (arith, is, past)) ∙ sym (none_kept ws k past)
]
