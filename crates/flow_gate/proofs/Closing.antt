-- The state of a gate that was closed.
use Rattle.std.proofs.Common.{◌≡◌, ℕ, false, List, [], ◌∷◌, get_or, refl, sym, ap, ◌∙◌, subst}
use mathlib.Core.Option.{some, some-injective, some-ne-none}
use lib.ListN.{get_elem?}
use Rattle.atomic_table.specs.Table.{Final, Seen, State}
use Rattle.flow_law.specs.declared.history.HistoryEvent.{HistoryEvent}
use Rattle.flow_law.specs.declared.history.Knowledge.{Knowledge}
use Rattle.flow_law.specs.history.Growth.{Fits}
use Rattle.flow_law.specs.history.RealTime.{IsTimed}
use Rattle.flow_gate.specs.declared.view.SeatView.{SeatView}
use Rattle.flow_gate.specs.View.{seat_view}
use Rattle.flow_gate.specs.Rule.{GateHolds}

word_at : (ws : List ℕ) (n : ℕ) → get_elem? ws 0 ≡ some n → get_or ws 0 0 ≡ n
word_at [] n e = absurd (some-ne-none n (sym e))
word_at (x ∷ xs) n e = some-injective x n e

module _ {S E : Type 0} (stands : S → List (HistoryEvent E) → Type 0) where
  -- the state of a gate that had no caller inside at the end
  module _ (Rule : State S (SeatView E) → Type 0) (holds : (s : State S (SeatView E)) → Rule s → GateHolds stands s) (ws : List ℕ) (xs : List S) (n : ℕ) (o : S)
      (f : Final Rule ws xs) (at : get_elem? ws 0 ≡ some n) (free : n ≡ 0) (there : get_elem? xs 0 ≡ some o) where
    abbrev rule : GateHolds stands f.0
    rule = holds f.0 f.1

    last_state : (x : S) × stands x rule.history × (x ≡ o)
    last_state =
        let x = rule.free (ap (λ l. get_or l 0 0) f.2 ∙ (word_at ws n at ∙ free)) in
        (x.0, x.2, some-injective x.0 o (sym (f.4 0 x.0 x.1) ∙ there))

  pub closes : (id : ℕ) (k : Knowledge E) (v : SeatView E) (ws : List ℕ) (xs : List S) (n : ℕ) (o : S) → v ≡ seat_view (k ∷ []) false → Final (Seen (GateHolds stands) id v) ws xs
      → get_elem? ws 0 ≡ some n → n ≡ 0 → get_elem? xs 0 ≡ some o → (history : List (HistoryEvent E)) × stands o history × Fits history k × IsTimed history
  closes id k v ws xs n o is f at free there =
      let x = last_state (Seen (GateHolds stands) id v) (λ _ seen. seen.0) ws xs n o f at free there in
      let r : GateHolds stands f.0 = f.1.0 in
      let seat : get_elem? f.0.views id ≡ some (seat_view (k ∷ []) false) = f.1.1 ∙ ap some is in
      subst (λ (p : S). (history : List (HistoryEvent E)) × stands p history × Fits history k × IsTimed history) x.2 (r.history, x.1, r.fits id 0 k (seat_view (k ∷ []) false, seat, refl), r.timed)

  -- the same without a seat
  pub closes_alone : (ws : List ℕ) (xs : List S) (n : ℕ) (o : S) → Final (GateHolds stands) ws xs
      → get_elem? ws 0 ≡ some n → n ≡ 0 → get_elem? xs 0 ≡ some o → (history : List (HistoryEvent E)) × stands o history
  closes_alone ws xs n o f at free there =
      let x = last_state (GateHolds stands) (λ _ r. r) ws xs n o f at free there in
      subst (λ (p : S). (history : List (HistoryEvent E)) × stands p history) x.2 (f.1.history, x.1)
