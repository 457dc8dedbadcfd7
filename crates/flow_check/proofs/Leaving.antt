-- A private call that ended can be made before all others of an order. Begin with `make_first`.
use Rattle.std.proofs.Common.{◌≡◌, ◌≢◌, ℕ, suc, zero, ◌+◌, Bool, true, false, List, [], ◌∷◌, length, set, get_or, Option, Some, refl, sym, ap, ◌∙◌, subst, inl, inr, arith}
use Rattle.std.specs.Prelude.{slice_get, is_some, IsSome}
use Rattle.std.proofs.lemmas.Bool.{false≢true}
use Rattle.std.proofs.lemmas.Bool.Decides.{eqb_tells}
use Rattle.std.proofs.lemmas.List.{set_comm, get_or-set_other}
use Rattle.std.proofs.lemmas.Option.{same_Some, slice_get_within, get_or_from_slice_get}
use Rattle.flow_law.proofs.Rows.{split}
use Rattle.flow_check.specs.declared.timed.Timed.{Timed}
use Rattle.flow_check.specs.Records.{CallsByCaller, recorded, is_over_before, IsWellTimed}
use Rattle.flow_check.specs.Remaining.{placing, next_at, next_call_of, MayComeNext, IsStep, GoesThrough}
use Rattle.flow_check.specs.Looks.{IsKept}
use Rattle.flow_check.specs.PrivateCalls.{ArePrivate}
use Rattle.flow_check.proofs.Parts.{placed_at}
use Rattle.flow_check.proofs.Places.{get-set_same}
use Rattle.flow_check.proofs.Timing.{earlier}

-- ---- places

pub get-set_else : {A : Type 0} (xs : List A) (i j : ℕ) (x : A) → i ≢ j → slice_get (set xs i x) j ≡ slice_get xs j
get-set_else [] i j x apart = refl
get-set_else (y ∷ xs) zero zero x apart = absurd (apart refl)
get-set_else (y ∷ xs) zero (suc j) x apart = refl
get-set_else (y ∷ xs) (suc i) zero x apart = refl
get-set_else (y ∷ xs) (suc i) (suc j) x apart = get-set_else xs i j x (λ e. apart (ap suc e))

-- it does not matter which of two callers is counted first
pub placing_comm : (i j : ℕ) (placed : List ℕ) → i ≢ j → placing i (placing j placed) ≡ placing j (placing i placed)
placing_comm i j placed apart =
    ap (λ (n : ℕ). set (set placed j (get_or placed j 0 + 1)) i (n + 1)) (get_or-set_other placed j i (get_or placed j 0 + 1) 0 apart)
    ∙ set_comm placed j i (get_or placed j 0 + 1) (get_or placed i 0 + 1) (λ e. apart (sym e))
    ∙ ap (λ (n : ℕ). set (set placed i (get_or placed i 0 + 1)) j (n + 1)) (sym (get_or-set_other placed i j (get_or placed i 0 + 1) 0 (λ e. apart (sym e))))

module _ {C : Type 0} (callers : CallsByCaller C) where
  pub next_else : (placed : List ℕ) (i j : ℕ) → i ≢ j → next_call_of callers (placing i placed) j ≡ next_call_of callers placed j
  next_else placed i j apart = ap (next_at callers j) (get-set_else placed i j (get_or placed i 0 + 1) apart)

  -- the next call of a caller is over no later than the one after it
  pub not_over_later : IsWellTimed callers → (placed : List ℕ) (i moment : ℕ) (c d : Timed C) → next_call_of callers placed i ≡ Some c → next_call_of callers (placing i placed) i ≡ Some d
      → is_over_before c.end moment ≡ false → is_over_before d.end moment ≡ false
  not_over_later well placed i moment c d now then free =
      let at = placed_at callers i (slice_get placed i) c now in
      let count = get_or_from_slice_get placed i at.0 0 at.1 in
      let grown = get-set_same placed i (get_or placed i 0 + 1) (slice_get_within placed i at.0 at.1) in
      let after : recorded callers i (at.0 + 1) ≡ Some d = sym (ap (next_at callers i) (grown ∙ ap (λ (n : ℕ). Some (n + 1)) count)) ∙ then in
      let before = earlier callers well i at.0 (at.0 + 1) d (omega arith) after in
      let is : before.0 ≡ c = same_Some before.0 c (sym before.1 ∙ at.2) in
      split (is_over_before d.end moment) (λ b. is_over_before d.end moment ≡ b → b ≡ false)
      (λ _ over. absurd (false≢true (sym free ∙ subst (λ (x : Timed C). is_over_before x.end moment ≡ true) is (before.2.0 moment over)))) (λ _ _. refl) refl

  -- a call that may come next may still come next after some caller's next call has happened
  pub may_still : IsWellTimed callers → (placed : List ℕ) (i : ℕ) (c d : Timed C) → next_call_of callers placed i ≡ Some c → MayComeNext callers placed d → MayComeNext callers (placing i placed) d
  may_still well placed i c d now may = λ other e there. elim (eqb_tells i other) [
    | inl same ↦ not_over_later well placed i d.begin c e now (subst (λ (j : ℕ). next_call_of callers (placing i placed) j ≡ Some e) (sym same.1) there) (may i c now)
    | inr z ↦ may other e (sym (next_else placed i other z.1) ∙ there)
  ]

-- ---- orders

module _ {S C : Type 0} (stepped : S → ℕ → C → Option S) (may_skip is_private : C → Bool) (IsSound : S → Type 0) (kept : IsKept stepped IsSound) (Ahead : ℕ → C → S → S → Type 0)
    (private_calls : ArePrivate stepped may_skip IsSound is_private Ahead) where
  pub sound_after : (s after : S) (caller : ℕ) (c : C) → IsSound s → IsStep stepped may_skip s caller c after → IsSound after
  sound_after s after caller c sound (inl step) = kept s after caller c sound step
  sound_after s after caller c sound (inr skip) = subst IsSound (sym skip.1) sound

  module _ (callers : CallsByCaller C) (well : IsWellTimed callers) where
    -- from this state an order that is one turn shorter goes through what is left after this caller's next call
    abbrev pub GoesAfter : ℕ → S → List ℕ → List ℕ → Type 0
    GoesAfter i t placed order = (rest : List ℕ) × (length order ≡ length rest + 1) × GoesThrough stepped may_skip callers t (placing i placed) rest

    own_turn : (i : ℕ) (c : Timed C) (order placed : List ℕ) (s t : S) → is_private c.call ≡ true → IsSound s → Ahead i c.call s t → next_call_of callers placed i ≡ Some c
        → GoesThrough stepped may_skip callers s placed (i ∷ order) → GoesAfter i t placed (i ∷ order)
    own_turn i c order placed s t own sound ahead next h =
        let is : c ≡ h.0 = same_Some c h.0 (sym next ∙ h.1) in
        let same : h.3.0 ≡ t = private_calls.ends s t h.3.0 i c.call sound own ahead (subst (λ (x : Timed C). IsStep stepped may_skip s i x.call h.3.0) (sym is) h.3.1) in
        (order, omega arith, subst (λ (u : S). GoesThrough stepped may_skip callers u (placing i placed) order) same h.3.2)

    -- t is the state in which the private call has happened already
    pub make_first : (i : ℕ) (c : Timed C) (order placed : List ℕ) (s t : S) → is_private c.call ≡ true → IsSome c.end → IsSound s → Ahead i c.call s t → next_call_of callers placed i ≡ Some c
        → GoesThrough stepped may_skip callers s placed order → GoesAfter i t placed order
    make_first i c [] placed s t own ended sound ahead next h = absurd (false≢true (subst (λ (o : Option ℕ). is_some o ≡ true) (h i c next) ended))
    make_first i c (caller ∷ order) placed s t own ended sound ahead next h = elim (eqb_tells i caller) [
      | inl same ↦
          subst (λ (j : ℕ). GoesThrough stepped may_skip callers s placed (j ∷ order) → GoesAfter i t placed (j ∷ order)) same.1
          (own_turn i c order placed s t own sound ahead next) h
      | inr e ↦
          let apart : caller ≢ i = λ z. e.1 (sym z) in
          let kept_ahead = private_calls.keeps s t h.3.0 i caller c.call h.0.call e.1 sound own ahead h.3.1 in
          let less = make_first i c order (placing caller placed) h.3.0 kept_ahead.0 own ended (sound_after s h.3.0 caller h.0.call sound h.3.1) kept_ahead.2 (next_else callers placed caller i apart ∙ next) h.3.2 in
          let count = less.1 in (
            caller ∷ less.0,
            omega arith,
            (
              h.0,
              next_else callers placed i caller e.1 ∙ h.1,
              may_still callers well placed i c h.0 next h.2,
              (kept_ahead.0, kept_ahead.1, subst (λ (p : List ℕ). GoesThrough stepped may_skip callers kept_ahead.0 p less.0) (placing_comm i caller placed e.1) less.2),
            ),
          )
    ]
