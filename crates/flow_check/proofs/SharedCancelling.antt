-- What `cancel_kept` does to the state of a checker of shared flows, and to that of the documented flow.
use Rattle.std.proofs.Common.{◌≡◌, ℕ, Bool, true, not, ◌==◌, cond, List, [], ◌∷◌, length, map, refl, sym, subst, inl, inr, arith}
use Rattle.std.specs.Prelude.{filter}
use Rattle.std.specs.List.{list_any}
use Rattle.std.proofs.lemmas.Bool.{or_cases, or_left}
use Rattle.flow_law.specs.history.History.{Owner}
use Rattle.flow_law.specs.declared.states.Numbered.{Numbered}
use Rattle.flow_law.specs.declared.states.SharedFlowState.{SharedFlowState}
use Rattle.flow_law.specs.flow.SharedFlow.{stand_at}
use Rattle.flow_law.specs.flow.SharedFlow as law
use Rattle.flow_law.specs.flow.SharedStep as flow
use Rattle.flow_law.proofs.Rows.{split}
use Rattle.flow_law.proofs.RowOrder.{InOrder}
use Rattle.flow_check.specs.SharedMachine.{Kept, cleared, settle_kept, withdraw_kept, cancel_kept}
use Rattle.flow_check.proofs.LagLemmas.{most_cleared}
use Rattle.flow_check.proofs.SharedSeats.{moves_all, seats_moved}
use Rattle.flow_check.proofs.SharedStanding.{IsEmitter, StandsAs, queue_without, or_right}
use Rattle.flow_check.proofs.SharedEmitting.{once_fewer, settled}
use Rattle.flow_check.proofs.SharedCalls.{seat_changed, unsettled}
use Rattle.flow_check.proofs.SharedOffering.{offered_same, waits_mine}

module _ (size k : ℕ) (owners : List Owner)
    (m : Kept) (s : SharedFlowState ℕ) (st : StandsAs size m k s owners) (rises : InOrder s) where
  -- a filtered list has no other elements
  any_kept : (test keep : Numbered ℕ → Bool) (qs : List (Numbered ℕ)) → list_any test (filter keep qs) ≡ true → list_any test qs ≡ true
  any_kept test keep [] h = h
  any_kept test keep (q ∷ qs) h = split (keep q) (λ t. list_any test (cond t (q ∷ filter keep qs) (filter keep qs)) ≡ true → list_any test (q ∷ qs) ≡ true)
      (λ _ h. elim (or_cases (test q) (list_any test (filter keep qs)) h) [
        | inl t ↦ or_left (test q) (list_any test qs) t
        | inr t ↦ or_right (test q) (list_any test qs) (any_kept test keep qs t)
      ])
      (λ _ h. or_right (test q) (list_any test qs) (any_kept test keep qs h)) h

  module _ (caller e : ℕ) (own : IsEmitter caller e owners) (waiting : flow.is_waiting e s ≡ true) where
    abbrev Taken : SharedFlowState ℕ
    Taken = record s { subscribers = map (stand_at (length s.emitted)) s.subscribers }

    abbrev Lost : SharedFlowState ℕ
    Lost = record s { queue = filter (λ q. not (q.number == e)) s.queue }

    taken : InOrder Taken → StandsAs size (record m { lags = map cleared m.lags }) k Taken owners
    taken after =
        let low = most_cleared m.lags in
        seat_changed size k owners m s (map cleared m.lags) m.owns (map (stand_at (length s.emitted)) s.subscribers) st rises after
        (seats_moved size m.lags m.owns s.subscribers (length s.emitted) owners st.seats (map (stand_at (length s.emitted)) s.subscribers) (length s.emitted) (λ _. length s.emitted) (λ _. 0) cleared
        (moves_all (λ _. length s.emitted) s.subscribers) refl (λ lag. refl) (λ lag p upto reach. omega arith)) (omega arith)

    lost : StandsAs size (record m { queue = filter (λ h. not (h.caller == caller)) m.queue }) k Lost owners
    lost = record {
      seats = st.seats;
      values = st.values;
      waits = record {
        queue = queue_without owners caller e m.queue s.queue own (λ f its h. st.waits.once caller f e its own (or_left (law.is_queued f s) (law.is_offered_as f s) h) waiting) st.waits.queue;
        offered = st.waits.offered;
        unoffered = st.waits.unoffered;
        once = once_fewer owners s Lost (λ f w. elim (or_cases (law.is_queued f Lost) (law.is_offered_as f Lost) w) [
          | inl q ↦ or_left (law.is_queued f s) (law.is_offered_as f s) (any_kept (λ p. p.number == f) (λ q. not (q.number == e)) s.queue q)
          | inr o ↦ or_right (law.is_queued f s) (law.is_offered_as f s) o
        ]) st.waits.once;
      };
      issued = st.issued;
      owned = st.owned;
    }

    withdrawn : InOrder (flow.withdraw e s) → StandsAs size (withdraw_kept caller m) k (flow.withdraw e s) owners
    withdrawn after =
        subst (λ (b : Bool). StandsAs size (cond b (record m { lags = map cleared m.lags }) (record m { queue = filter (λ h. not (h.caller == caller)) m.queue })) k (flow.withdraw e s) owners)
        (sym (offered_same size m s owners st.seats st.values rises st.waits caller e own waiting))
        (split (law.is_offered_as e s)
        (λ b. InOrder (cond b Taken Lost) → StandsAs size (cond b (record m { lags = map cleared m.lags }) (record m { queue = filter (λ h. not (h.caller == caller)) m.queue })) k (cond b Taken Lost) owners)
        (λ _ after. taken after) (λ _ _. lost) after)

    pub cancelled : InOrder (flow.settle (flow.withdraw e s)) → StandsAs size (cancel_kept caller m) k (flow.settle (flow.withdraw e s)) owners
    cancelled after =
        let before = unsettled size k owners m s st rises (flow.withdraw e s) after in
        subst (λ (b : Bool). StandsAs size (cond b (settle_kept (withdraw_kept caller m)) m) k (flow.settle (flow.withdraw e s)) owners) (sym (waits_mine size m s owners st.seats st.values rises st.waits caller e own waiting))
        (settled size k owners (withdraw_kept caller m) (flow.withdraw e s) (withdrawn before) before)
