-- What is at each place of a list after one was set, and how many calls of each caller have happened after some turns.
use Rattle.std.proofs.Common.{◌≡◌, ◌≢◌, ℕ, suc, zero, ◌+◌, ◌<◌, ◌≤◌, List, [], ◌∷◌, ◌++◌, length, set, get_or, Some, refl, sym, ap, ◌∙◌, subst, inl, inr, arith, length-set}
use Rattle.std.specs.Prelude.{slice_get}
use Rattle.std.proofs.lemmas.Bool.Decides.{eqb_tells, leb_tells}
use Rattle.std.proofs.lemmas.List.{length-map}
use Rattle.std.proofs.lemmas.Option.{slice_get_past, get_or_from_slice_get}
use Rattle.flow_check.specs.Records.{CallsByCaller, recorded, call_in}
use Rattle.flow_check.specs.Remaining.{none_placed, placing, next_at, next_call_of}
use Rattle.flow_check.specs.Orders.{turns_of}
use Rattle.flow_check.proofs.Turns.{turns-snoc, turns-snoc_other}

module _ {A : Type 0} where
  pub get-set_same : (xs : List A) (i : ℕ) (x : A) → i < length xs → slice_get (set xs i x) i ≡ Some x
  get-set_same [] i x l = absurd (omega arith)
  get-set_same (y ∷ xs) zero x l = refl
  get-set_same (y ∷ xs) (suc i) x l = get-set_same xs i x (omega arith)

  pub get-set_other : (xs : List A) (i j : ℕ) (x : A) → i ≢ j → j < length xs → slice_get (set xs i x) j ≡ slice_get xs j
  get-set_other [] i j x apart l = absurd (omega arith)
  get-set_other (y ∷ xs) zero zero x apart l = absurd (apart refl)
  get-set_other (y ∷ xs) zero (suc j) x apart l = refl
  get-set_other (y ∷ xs) (suc i) zero x apart l = refl
  get-set_other (y ∷ xs) (suc i) (suc j) x apart l = get-set_other xs i j x (λ e. apart (ap suc e)) (omega arith)

module _ {C : Type 0} where
  none_at : (callers : CallsByCaller C) (i : ℕ) → i < length callers → slice_get (none_placed callers) i ≡ Some 0
  none_at [] i l = absurd (omega arith)
  none_at (calls ∷ callers) zero l = refl
  none_at (calls ∷ callers) (suc i) l = none_at callers i (omega arith)

module _ {C : Type 0} (callers : CallsByCaller C) where
  -- as many calls of each caller have happened as it had turns
  pub record Counts (placed p : List ℕ) : Type 0 where
    pub size : length placed ≡ length callers
    pub each : (i : ℕ) → i < length callers → slice_get placed i ≡ Some (turns_of i p)

  pub counts_none : Counts (none_placed callers) []
  counts_none = record { size = length-map callers (λ _. 0); each = none_at callers }

  pub counts_more : (placed p : List ℕ) (i : ℕ) → Counts placed p → i < length callers → Counts (placing i placed) (p ++ i ∷ [])
  counts_more placed p i c near = let size = c.size in record {
    size = length-set placed i (get_or placed i 0 + 1) ∙ c.size;
    each = λ j l. elim (eqb_tells i j) [
      | inl e ↦ subst (λ (n : ℕ). slice_get (placing i placed) n ≡ Some (turns_of n (p ++ i ∷ []))) e.1 own
      | inr e ↦ get-set_other placed i j (get_or placed i 0 + 1) e.1 (omega arith) ∙ c.each j l ∙ ap Some (sym (turns-snoc_other i j p e.1))
    ];
  }
    where
      own : slice_get (placing i placed) i ≡ Some (turns_of i (p ++ i ∷ []))
      own = let size = c.size in
          get-set_same placed i (get_or placed i 0 + 1) (omega arith)
          ∙ ap (λ n. Some (n + 1)) (get_or_from_slice_get placed i (turns_of i p) 0 (c.each i near))
          ∙ ap Some (sym (turns-snoc i p))

  -- a caller's first call that has not happened is its next one after its turns
  pub next_same : (placed p : List ℕ) (i : ℕ) → Counts placed p → next_call_of callers placed i ≡ recorded callers i (turns_of i p)
  next_same placed p i c = let size = c.size in elim (leb_tells (suc i) (length callers)) [
    | inl e ↦ ap (next_at callers i) (c.each i e.1)
    | inr e ↦ let far : length callers ≤ i = let low = e.1 in omega arith in
        ap (next_at callers i) (slice_get_past placed i (omega arith)) ∙ sym (ap (λ o. call_in o (turns_of i p)) (slice_get_past callers i far))
  ]
