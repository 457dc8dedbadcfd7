-- What `next`, `unsubscribe` and `reset_replay_cache` do to the state of a checker of shared flows, and to that of the documented flow.
use Rattle.std.proofs.Common.{◌≡◌, ◌≢◌, ℕ, suc, zero, ◌+◌, ◌-◌, ◌<◌, ◌≤◌, true, ◌==◌, cond, List, [], ◌∷◌, ◌++◌, length, take, drop, set, Option, Some, None, refl, sym, ap, ◌∙◌, subst, inl, inr, arith, ne_eqb, append_assoc}
use Rattle.std.specs.Prelude.{slice_get, max, is_some}
use Rattle.std.specs.List.{list_any}
use Rattle.std.specs.Option.{option_map_or}
use Rattle.std.specs.Cmp.Derive.{both_true}
use Rattle.std.proofs.lemmas.Bool.{cond-false, and_parts, or_cases, or_left}
use Rattle.std.proofs.lemmas.List.{take-append-drop, length-drop}
use Rattle.flow_law.specs.declared.config.Config.{Config}
use Rattle.flow_law.specs.history.History.{Owner}
use Rattle.flow_law.specs.declared.states.Numbered.{Numbered}
use Rattle.flow_law.specs.declared.states.Subscriber.{Subscriber}
use Rattle.flow_law.specs.declared.states.SharedFlowState.{SharedFlowState}
use Rattle.flow_law.specs.flow.SharedFlow.{move_to, with_own, without, stand_at}
use Rattle.flow_law.specs.flow.SharedFlow as law
use Rattle.flow_law.specs.flow.SharedStep as flow
use Rattle.flow_law.proofs.Boxes.{admit_subscribers}
use Rattle.flow_law.proofs.Rows.{split, position-move_to, position-move_to_other, position-with_own, own-with_own, own-with_own_other, own-move_to}
use Rattle.flow_law.proofs.RowOrder.{InOrder}
use Rattle.flow_law.specs.laws.Laws.{RisesTo}
use Rattle.flow_law.proofs.RowOrder.{numbers_of}
use Rattle.flow_check.specs.Subscribed.{kept_of}
use Rattle.flow_check.specs.SharedMachine.{Kept, most_lag, own_left, kept_capacity, trim, with_lag, with_own_kept as set_own}
use Rattle.flow_check.proofs.LagLemmas.{lag_upto, most-set, most-set_none}
use Rattle.flow_check.proofs.SharedSeats.{IsSeated, SeatsAs, Others, seats_went, seats_left}
use Rattle.flow_check.proofs.SharedStanding.{SeatsOf, ValuesOf, StandsAs, or_right}
use Rattle.flow_check.proofs.SharedEmitting.{values_fewer, once_fewer}
use Rattle.flow_check.proofs.SharedNewSeats.{one_fewer}
use Rattle.flow_check.proofs.SharedOffering.{offers_some, offers_of}

module _ (size k : ℕ) (owners : List Owner) where
  -- a later turn, too
  pub later : (m : Kept) (s : SharedFlowState ℕ) → StandsAs size m k s owners → StandsAs size m (k + 1) s owners
  later m s st = let upto = st.issued in record { seats = st.seats; values = st.values; waits = st.waits; issued = omega arith; owned = st.owned }

  -- ---- what is left out

  pub trimmed : (m : Kept) (s : SharedFlowState ℕ) → StandsAs size m k s owners → StandsAs size (trim m) k s owners
  trimmed m s st =
      let needed = max (most_lag m.lags) m.cached in
      let skipped = length m.values - needed in
      let a = st.values.most_kept in
      let b = st.values.cache_kept in
      let kept = length-drop skipped m.values in record {
        seats = st.seats;
        values = record {
          replay = st.values.replay;
          extra = st.values.extra;
          overflow = st.values.overflow;
          suspends = st.values.suspends;
          one = st.values.one;
          front = st.values.front ++ take skipped m.values;
          tail = st.values.tail ∙ ap (λ (l : List ℕ). st.values.front ++ l) (sym (take-append-drop skipped m.values)) ∙ sym (append_assoc st.values.front (take skipped m.values) (drop skipped m.values));
          most_kept = omega arith;
          cache_kept = omega arith;
          cache = st.values.cache;
          marked = st.values.marked;
        };
        waits = record {
          queue = st.waits.queue;
          offered = λ none some.
              let its = st.waits.offered none some in
              let nonzero : most_lag m.lags ≢ 0 = λ z. absurd (omega arith) in
              (its.0, cond-false (most_lag m.lags == 0) None m.offered (ne_eqb (most_lag m.lags) 0 nonzero) ∙ its.1, its.2);
          unoffered = λ some. split (most_lag m.lags == 0) (λ b. cond b None m.offered ≡ None) (λ _. refl) (λ _. st.waits.unoffered some);
          once = st.waits.once;
        };
        issued = st.issued;
        owned = st.owned;
      }

  -- ---- fewer values to receive

  -- Subscribers change, and there is something to receive only if there was: an emitter that waits waited before.
  pub still_waits : (m n : Kept) (s t : SharedFlowState ℕ) (others : List Owner) → SeatsOf size m s owners → ValuesOf m s → InOrder s → SeatsOf size n t others → ValuesOf n t → InOrder t → n.config ≡ m.config → t.queue ≡ s.queue → t.emitted ≡ s.emitted
      → (kept_capacity m ≡ 0 → 0 < most_lag n.lags → 0 < most_lag m.lags) → (e : ℕ) → flow.is_waiting e t ≡ true → flow.is_waiting e s ≡ true
  still_waits m n s t others seats values rises after more ordered config queue emitted some e w = elim (or_cases (law.is_queued e t) (law.is_offered_as e t) w) [
    | inl q ↦ or_left (law.is_queued e s) (law.is_offered_as e s) (ap (λ (qs : List (Numbered ℕ)). list_any (λ p. p.number == e) qs) (sym queue) ∙ q)
    | inr o ↦
        let both = and_parts (law.is_offering t) (law.newest t == e) o in
        let offers = offers_some size n t others after more ordered both.0 in
        let none : kept_capacity m ≡ 0 = ap (λ (c : Config). c.replay + c.extra) (sym config) ∙ offers.0 in
        let same : law.newest s ≡ law.newest t = ap (λ (es : List (Numbered ℕ)). option_map_or (λ x. x.number) (slice_get es (length es - 1)) 0) (sym emitted) in
        or_right (law.is_queued e s) (law.is_offered_as e s) (both_true (offers_of size m s owners seats values rises none (some none offers.1)) (ap (λ (n : ℕ). n == e) same ∙ both.1))
  ]

  -- lags, own values and subscribers change, and the greatest lag does not grow: a caller receives a value, or its subscription ends
  pub seat_changed : (m : Kept) (s : SharedFlowState ℕ) (lags : List (Option ℕ)) (owns : List (List ℕ)) (us : List (Subscriber ℕ)) → StandsAs size m k s owners → InOrder s → InOrder (record s { subscribers = us })
      → SeatsAs size lags owns us (length s.emitted) owners → most_lag lags ≤ most_lag m.lags → StandsAs size (record m { lags = lags; owns = owns }) k (record s { subscribers = us }) owners
  seat_changed m s lags owns us st rises after seats low =
      let values : ValuesOf (record m { lags = lags; owns = owns }) (record s { subscribers = us }) = values_fewer m.config m.values m.cached (most_lag m.lags) (most_lag lags) s.config s.emitted s.reset_mark low st.values in record {
        seats = seats;
        values = values;
        waits = record {
          queue = st.waits.queue;
          offered = λ none some. st.waits.offered none (omega arith);
          unoffered = st.waits.unoffered;
          once = once_fewer owners s (record s { subscribers = us })
              (still_waits m (record m { lags = lags; owns = owns }) s (record s { subscribers = us }) owners st.seats st.values rises seats values after refl refl refl (λ none some. omega arith)) st.waits.once;
        };
        issued = st.issued;
        owned = st.owned;
      }

  module _ (m : Kept) (s : SharedFlowState ℕ) (st : StandsAs size m k s owners) (rises : InOrder s) where
    -- a state with other subscribers, before queued values are emitted into it
    pub unsettled : (t : SharedFlowState ℕ) → InOrder (flow.settle t) → InOrder t
    unsettled t h =
        let kept = admit_subscribers t t.queue in
        subst (λ (us : List (Subscriber ℕ)). RisesTo 0 (numbers_of us) t.issued) kept.0 (subst (λ (n : ℕ). RisesTo 0 (numbers_of (flow.settle t).subscribers) n) kept.2 h)

    module _ (caller : ℕ) (near : caller < size) where
      -- the caller receives an emitted value
      pub received : (lag : ℕ) (seat : IsSeated owners s.subscribers (length s.emitted) caller (suc lag) (own_left caller m.owns)) → kept_of caller m.lags ≡ Some (suc lag)
          → InOrder (flow.advance seat.number (seat.position + 1) s) → StandsAs size (with_lag caller (Some lag) m) k (flow.advance seat.number (seat.position + 1) s) owners
      received lag seat is after =
          let reach = seat.reach in
          let upto = lag_upto m.lags caller (suc lag) is in
          let most = most-set m.lags caller lag in
          let others : Others size m.lags m.owns s.subscribers (length s.emitted) owners st.seats (move_to seat.number (seat.position + 1) s.subscribers) seat.number = record {
            stands = λ u apart. position-move_to_other u seat.number (seat.position + 1) s.subscribers apart;
            own = λ u apart. own-move_to u seat.number (seat.position + 1) s.subscribers;
          } in
          let seats = seats_went size m.lags m.owns s.subscribers (length s.emitted) owners st.seats caller near (move_to seat.number (seat.position + 1) s.subscribers) (suc lag) lag (own_left caller m.owns) seat (seat.position + 1) is others
          (long seat.number (seat.position + 1) s.subscribers) (position-move_to seat.number seat.position (seat.position + 1) s.subscribers seat.stands) (omega arith)
          (own-move_to seat.number seat.number (seat.position + 1) s.subscribers ∙ seat.left) in
          seat_changed m s (set m.lags caller (Some lag)) m.owns (move_to seat.number (seat.position + 1) s.subscribers) st rises after
          (subst (λ (owns : List (List ℕ)). SeatsAs size (set m.lags caller (Some lag)) owns (move_to seat.number (seat.position + 1) s.subscribers) (length s.emitted) owners) (own_kept m.owns caller) seats) (omega arith)
        where
          long : (n p : ℕ) (us : List (Subscriber ℕ)) → length (move_to n p us) ≡ length us
          long n p [] = refl
          long n p (u ∷ us) = split (u.number == n) (λ t. length (cond t (stand_at p u ∷ us) (u ∷ move_to n p us)) ≡ suc (length us)) (λ _. refl) (λ _. ap suc (long n p us))

          own_kept : (owns : List (List ℕ)) (i : ℕ) → set owns i (own_left i owns) ≡ owns
          own_kept [] i = refl
          own_kept (own ∷ owns) zero = refl
          own_kept (own ∷ owns) (suc i) = ap (λ (l : List (List ℕ)). own ∷ l) (own_kept owns i)

      -- the caller receives the first of its own values
      pub took : (lag v : ℕ) (own : List ℕ) (seat : IsSeated owners s.subscribers (length s.emitted) caller lag (own_left caller m.owns)) → kept_of caller m.lags ≡ Some lag
          → InOrder (flow.keep_own seat.number own s) → StandsAs size (set_own caller own m) k (flow.keep_own seat.number own s) owners
      took lag v own seat is after =
          let others : Others size m.lags m.owns s.subscribers (length s.emitted) owners st.seats (with_own seat.number own s.subscribers) seat.number = record {
            stands = λ u apart. position-with_own u seat.number own s.subscribers;
            own = λ u apart. own-with_own_other u seat.number own s.subscribers apart;
          } in
          let seats = seats_went size m.lags m.owns s.subscribers (length s.emitted) owners st.seats caller near (with_own seat.number own s.subscribers) lag lag own seat seat.position is others
          (long seat.number s.subscribers) (position-with_own seat.number seat.number own s.subscribers ∙ seat.stands) seat.reach (own-with_own seat.number seat.position own s.subscribers seat.stands) in
          seat_changed m s m.lags (set m.owns caller own) (with_own seat.number own s.subscribers) st rises after
          (subst (λ (lags : List (Option ℕ)). SeatsAs size lags (set m.owns caller own) (with_own seat.number own s.subscribers) (length s.emitted) owners) (lag_kept m.lags caller lag is) seats) (omega arith)
        where
          long : (n : ℕ) (us : List (Subscriber ℕ)) → length (with_own n own us) ≡ length us
          long n [] = refl
          long n (u ∷ us) = split (u.number == n) (λ t. length (cond t (law.leave_own own u ∷ us) (u ∷ with_own n own us)) ≡ suc (length us)) (λ _. refl) (λ _. ap suc (long n us))

          lag_kept : (lags : List (Option ℕ)) (i x : ℕ) → kept_of i lags ≡ Some x → set lags i (Some x) ≡ lags
          lag_kept [] i x e = refl
          lag_kept (lag ∷ lags) zero x e = ap (λ (o : Option ℕ). o ∷ lags) (sym e)
          lag_kept (lag ∷ lags) (suc i) x e = ap (λ (l : List (Option ℕ)). lag ∷ l) (lag_kept lags i x e)

      -- the caller's subscription ends
      pub left : (lag : ℕ) (seat : IsSeated owners s.subscribers (length s.emitted) caller lag (own_left caller m.owns)) → kept_of caller m.lags ≡ Some lag
          → InOrder (flow.leave seat.number s) → StandsAs size (set_own caller [] (with_lag caller None m)) k (flow.leave seat.number s) owners
      left lag seat is after =
          seat_changed m s (set m.lags caller None) (set m.owns caller []) (without seat.number s.subscribers) st rises after
          (seats_left size m.lags m.owns s.subscribers (length s.emitted) owners st.seats caller near lag seat is (one_fewer seat.number 0 s.issued s.subscribers rises (ap is_some seat.stands))) (most-set_none m.lags caller)

    -- the replay cache becomes empty
    pub reset : StandsAs size (record m { cached = 0 }) k (flow.forget s) owners
    reset = record {
      seats = st.seats;
      values = record {
        replay = st.values.replay;
        extra = st.values.extra;
        overflow = st.values.overflow;
        suspends = st.values.suspends;
        one = st.values.one;
        front = st.values.front;
        tail = st.values.tail;
        most_kept = st.values.most_kept;
        cache_kept = omega arith;
        cache = omega arith;
        marked = omega arith;
      };
      waits = record { queue = st.waits.queue; offered = st.waits.offered; unoffered = st.waits.unoffered; once = st.waits.once };
      issued = st.issued;
      owned = st.owned;
    }
