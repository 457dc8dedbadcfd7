-- One step of a checker's state and one event of the documented shared flow. Begin with `Told`: what both say of a call.
use Rattle.std.proofs.Common.{◌≡◌, ℕ, suc, zero, ◌+◌, ◌-◌, ◌<◌, ◌≤◌, true, false, ◌==◌, cond, List, [], ◌∷◌, ◌++◌, length, drop, Option, Some, None, refl, sym, ap, ◌∙◌, subst, arith, ne_eqb, length-append, get_or}
use Rattle.std.specs.Prelude.{slice_get, Err}
use Rattle.std.specs.Option.{option_map_or}
use Rattle.std.proofs.lemmas.Bool.{false≢true, cond_both, cond-false}
use Rattle.std.proofs.lemmas.List.{length-map}
use Rattle.std.proofs.lemmas.Option.{slice_get_past, slice_get-get_or}
use Rattle.std.proofs.Math.Seq.{drop-append-add}
use Rattle.flow_law.specs.declared.fault.FlowFault.TheVariants.{Exhausted}
use Rattle.flow_law.specs.declared.outcome.Emit.{Emit}
use Rattle.flow_law.specs.declared.outcome.Emit.TheVariants.{Done, Queued}
use Rattle.flow_law.specs.declared.outcome.Next.{Next}
use Rattle.flow_law.specs.declared.outcome.Next.TheVariants as next
use Rattle.flow_law.specs.declared.call.SharedCall.TheVariants as call
use Rattle.flow_law.specs.declared.call.SharedReply.{SharedReply}
use Rattle.flow_law.specs.declared.call.SharedReply.TheVariants as reply
use Rattle.flow_law.specs.history.History.{Owner, with_owner}
use Rattle.flow_law.specs.declared.states.Numbered.{Numbered}
use Rattle.flow_law.specs.declared.states.Subscriber.{Subscriber}
use Rattle.flow_law.specs.declared.states.SharedFlowState.{SharedFlowState}
use Rattle.flow_law.specs.flow.SharedFlow.{Replied, answer, issuing, is_exhausted, position_of, own_of}
use Rattle.flow_law.specs.flow.SharedFlow as law
use Rattle.flow_law.specs.flow.EmitRule as rule
use Rattle.flow_law.specs.flow.SharedStep as flow
use Rattle.flow_law.specs.flow.SharedHistory.{reply_by, answer_to, is_refused, gives}
use Rattle.flow_law.proofs.CoveringLemmas.{slice_get-drop}
use Rattle.flow_law.proofs.Rows.{split}
use Rattle.flow_law.proofs.RowOrder.{InOrder, in_order_keeps}
use Rattle.flow_check.specs.declared.shared_machine.EmitCase.{EmitCase}
use Rattle.flow_check.specs.StateRecords.{caller_name}
use Rattle.flow_check.specs.SharedRecords.{HasNoSubscription, HasNoEmission}
use Rattle.flow_check.specs.Subscribed.{kept_of}
use Rattle.flow_check.specs.SharedMachine.{Kept, own_left, kept_emit_case, value_at, next_value, try_emit_answer, emit_in_kept, try_emit_in_kept, cancel_kept, receive_by, settle_kept, with_lag, first_lag, kept_cache}
use Rattle.flow_check.specs.SharedMachine as machine
use Rattle.flow_check.proofs.LagLemmas.{lag_upto}
use Rattle.flow_check.proofs.SharedSeats.{IsSeated, Seat}
use Rattle.flow_check.proofs.SharedStanding.{IsEmitter, StandsAs}
use Rattle.flow_check.proofs.SharedEmitting.{settled}
use Rattle.flow_check.proofs.SharedCalls.{later, unsettled, received, took, left}
use Rattle.flow_check.proofs.SharedMoves.{as_own, case_same, Facts, facts, appended, dropped, offered, held}
use Rattle.flow_check.proofs.SharedSubscribing.{subscribed}
use Rattle.flow_check.proofs.SharedCancelling.{cancelled}

abbrev Reply : Type 0
Reply = SharedReply ℕ

-- a call that would issue a number, and is not refused
unless_full : {R : Type 0} (wrap : R → Reply) (s : SharedFlowState ℕ) (x : Replied R ℕ) (P : SharedFlowState ℕ → Type 0) (r : Reply) → is_refused r ≡ false → r ≡ reply_by wrap (issuing s x).reply
    → (r ≡ reply_by wrap x.reply → P x.after) → P (issuing s x).after
unless_full wrap s x P r fresh told f =
    cond_both (is_exhausted s) (record { reply = Err Exhausted; after = s }) x (λ a. r ≡ reply_by wrap a.reply → P a.after)
    (λ _ e. absurd (false≢true (sym fresh ∙ ap is_refused e))) (λ _ e. f e) told

-- ---- values

slice_get-append : (front last : List ℕ) (j : ℕ) → slice_get (front ++ last) (length front + j) ≡ slice_get last j
slice_get-append [] last j = ap (slice_get last) (Rattle.std.proofs.Common.zero-add j)
slice_get-append (v ∷ front) last j = ap (slice_get (v ∷ (front ++ last))) shift ∙ slice_get-append front last j
  where
    shift : length (v ∷ front) + j ≡ suc (length front + j)
    shift = omega arith

own_absent : (u : ℕ) (us : List (Subscriber ℕ)) → position_of u us ≡ None → own_of u us ≡ []
own_absent u [] e = refl
own_absent u (w ∷ us) e = split (w.number == u) (λ t. cond t (Some w.position) (position_of u us) ≡ None → cond t w.own (own_of u us) ≡ []) (λ _ e. absurd (cc)) (λ _ e. own_absent u us e) e

-- for each positive lag of at most as many values as there are, there is a value
value_some : (lag : ℕ) (values : List ℕ) → suc lag ≤ length values → (v : ℕ) × (value_at (suc lag) values ≡ Some v)
value_some lag values low =
    let within : length values - suc lag < length values = omega arith in
    (get_or values (length values - suc lag) 0, slice_get-drop (length values - suc lag) values ∙ slice_get-get_or values (length values - suc lag) 0 within)

value_none : (values : List ℕ) → value_at 0 values ≡ None
value_none values = let past : length values ≤ length values - 0 = omega arith in slice_get-drop (length values - 0) values ∙ slice_get_past values (length values - 0) past

abbrev pub next_told : Option ℕ → Next ℕ
next_told None = next.Empty
next_told (Some v) = next.Value v

module _ (size : ℕ) (m : Kept) (k : ℕ) (s : SharedFlowState ℕ) (owners : List Owner) (st : StandsAs size m k s owners) (rises : InOrder s) where
  lengths : length s.emitted ≡ length st.values.front + length m.values
  lengths = sym (length-map s.emitted (λ (e : Numbered ℕ). e.value)) ∙ ap length st.values.tail ∙ length-append st.values.front m.values

  value_same : (p lag : ℕ) → p + lag ≡ length s.emitted → lag ≤ length m.values → slice_get (law.values s) p ≡ value_at lag m.values
  value_same p lag reach low =
      let all = lengths in
      let at : p ≡ length st.values.front + (length m.values - lag) = omega arith in
      ap (λ (vs : List ℕ). slice_get vs p) st.values.tail ∙ ap (slice_get (st.values.front ++ m.values)) at
      ∙ slice_get-append st.values.front m.values (length m.values - lag) ∙ sym (slice_get-drop (length m.values - lag) m.values)

  pub cache_same : law.cache s ≡ kept_cache m
  cache_same =
      let all = lengths in
      let begins = st.values.cache in
      let upto = st.values.cache_kept in
      let at : law.cache_start s ≡ length st.values.front + (length m.values - m.cached) = omega arith in
      ap (λ (vs : List ℕ). drop (law.cache_start s) vs) st.values.tail ∙ ap (λ (n : ℕ). drop n (st.values.front ++ m.values)) at
      ∙ drop-append-add st.values.front m.values (length m.values - m.cached)

  -- ---- emissions

  module _ (caller v : ℕ) where
    abbrev TryTold : rule.EmitCase → Type 0
    TryTold c = (r : Reply) → is_refused r ≡ false → r ≡ reply_by reply.Tested (rule.try_emit_in c v s).reply
        → (r ≡ reply.Tested (try_emit_answer (as_own c))) × StandsAs size (try_emit_in_kept (as_own c) caller v m) (k + 1) (rule.try_emit_in c v s).after owners

    try_by_case : (c : rule.EmitCase) → Facts size m k s owners st rises c → TryTold c
    try_by_case rule.appends f r fresh e =
        unless_full reply.Tested s (answer true (rule.append v s)) (λ t. (r ≡ reply.Tested true) × StandsAs size (machine.append_kept caller v m) (k + 1) t owners) r fresh e
        (λ e. (e, appended size m k s owners st rises caller v f.0 f.1))
    try_by_case rule.offers f r fresh e = (e, later size k owners m s st)
    try_by_case rule.queues f r fresh e = (e, later size k owners m s st)
    try_by_case rule.drops_latest f r fresh e = (e, later size k owners m s st)
    try_by_case rule.drops_oldest f r fresh e =
        unless_full reply.Tested s (answer true (rule.drop_oldest (rule.append v s))) (λ t. (r ≡ reply.Tested true) × StandsAs size (machine.append_kept caller v m) (k + 1) t owners) r fresh e
        (λ e. (e, dropped size m k s owners st rises caller v f.0 f.1 f.2))

    pub try_told : (r : Reply) → is_refused r ≡ false → r ≡ (answer_to (call.TryEmit v) s).reply
        → (r ≡ reply.Tested (try_emit_answer (kept_emit_case m))) × StandsAs size (try_emit_in_kept (kept_emit_case m) caller v m) (k + 1) (answer_to (call.TryEmit v) s).after owners
    try_told r fresh e =
        subst (λ (c : EmitCase). (r ≡ reply.Tested (try_emit_answer c)) × StandsAs size (try_emit_in_kept c caller v m) (k + 1) (answer_to (call.TryEmit v) s).after owners)
        (sym (case_same size m k s owners st rises)) (try_by_case (rule.emit_case s) (facts size m k s owners st rises) r fresh e)

    -- the state after, with the owner of the emission if it waits
    abbrev pub EmitStands : Kept → SharedFlowState ℕ → Reply → Type 0
    EmitStands n t r = ((e : Emit) × (r ≡ reply.Emitted e)) × StandsAs size n (k + 1) t (with_owner (gives (caller_name caller) (call.Emit v) r) owners)

    emit_as : (n : Kept) (t : SharedFlowState ℕ) (r : Reply) (e : Emit) → r ≡ reply.Emitted e → StandsAs size n (k + 1) t (with_owner (gives (caller_name caller) (call.Emit v) (reply.Emitted e)) owners) → EmitStands n t r
    emit_as n t r e is stands = ((e, is), subst (λ (x : Reply). StandsAs size n (k + 1) t (with_owner (gives (caller_name caller) (call.Emit v) x) owners)) (sym is) stands)

    emit_by_case : (c : rule.EmitCase) → Facts size m k s owners st rises c → HasNoEmission s owners caller → (r : Reply) → is_refused r ≡ false → r ≡ reply_by reply.Emitted (rule.emit_in c v s).reply
        → EmitStands (emit_in_kept (as_own c) caller v m) (rule.emit_in c v s).after r
    emit_by_case rule.appends f free r fresh e =
        unless_full reply.Emitted s (answer Done (rule.append v s)) (λ t. EmitStands (machine.append_kept caller v m) t r) r fresh e
        (λ e. emit_as (machine.append_kept caller v m) (rule.append v s) r Done e (appended size m k s owners st rises caller v f.0 f.1))
    emit_by_case rule.offers f free r fresh e =
        unless_full reply.Emitted s (answer (Queued (s.issued + 1)) (rule.append v s)) (λ t. EmitStands (machine.append_kept caller v m) t r) r fresh e
        (λ e. emit_as (machine.append_kept caller v m) (rule.append v s) r (Queued (s.issued + 1)) e (offered size m k s owners st rises caller v free f))
    emit_by_case rule.queues f free r fresh e =
        unless_full reply.Emitted s (answer (Queued (s.issued + 1)) (rule.suspend v s)) (λ t. EmitStands (machine.hold caller v m) t r) r fresh e
        (λ e. emit_as (machine.hold caller v m) (rule.suspend v s) r (Queued (s.issued + 1)) e (held size m k s owners st rises caller v free))
    emit_by_case rule.drops_latest f free r fresh e = emit_as m s r Done e (later size k owners m s st)
    emit_by_case rule.drops_oldest f free r fresh e =
        unless_full reply.Emitted s (answer Done (rule.drop_oldest (rule.append v s))) (λ t. EmitStands (machine.append_kept caller v m) t r) r fresh e
        (λ e. emit_as (machine.append_kept caller v m) (rule.drop_oldest (rule.append v s)) r Done e (dropped size m k s owners st rises caller v f.0 f.1 f.2))

    pub emit_told : HasNoEmission s owners caller → (r : Reply) → is_refused r ≡ false → r ≡ (answer_to (call.Emit v) s).reply → EmitStands (emit_in_kept (kept_emit_case m) caller v m) (answer_to (call.Emit v) s).after r
    emit_told free r fresh e =
        subst (λ (c : EmitCase). EmitStands (emit_in_kept c caller v m) (answer_to (call.Emit v) s).after r)
        (sym (case_same size m k s owners st rises)) (emit_by_case (rule.emit_case s) (facts size m k s owners st rises) free r fresh e)

  -- ---- subscriptions

  module _ (caller : ℕ) (near : caller < size) where
    -- whether the caller has a subscription
    pub free_seat : HasNoSubscription s owners caller → kept_of caller m.lags ≡ None
    free_seat none = by (kept_of caller m.lags) refl (st.seats.seats caller near)
      where
        by : (o : Option ℕ) → kept_of caller m.lags ≡ o → Seat owners s.subscribers (length s.emitted) caller o (own_left caller m.owns) → o ≡ None
        by None is seat = refl
        by (Some lag) is seat = let gone = none seat.number seat.is_own in let there = seat.stands in absurd (cc)

    pub no_seat : kept_of caller m.lags ≡ None → HasNoSubscription s owners caller
    no_seat is = subst (λ (o : Option ℕ). Seat owners s.subscribers (length s.emitted) caller o (own_left caller m.owns)) is (st.seats.seats caller near)

    abbrev pub SubscribeStands : List ℕ → SharedFlowState ℕ → Reply → Type 0
    SubscribeStands own t r =
        (r ≡ reply.Subscribed (s.issued + 1))
        × StandsAs size (machine.with_own_kept caller own (with_lag caller (Some (first_lag m)) m)) (k + 1) t (with_owner (gives (caller_name caller) (call.Subscribe (caller_name caller) own) r) owners)

    pub subscribe_told : (own : List ℕ) → kept_of caller m.lags ≡ None → (r : Reply) → is_refused r ≡ false → r ≡ (answer_to (call.Subscribe (caller_name caller) own) s).reply
        → SubscribeStands own (answer_to (call.Subscribe (caller_name caller) own) s).after r
    subscribe_told own is r fresh e =
        unless_full reply.Subscribed s (answer (s.issued + 1) (flow.enroll own s)) (λ t. SubscribeStands own t r) r fresh e
        (λ e. (
          e,
          subst (λ (x : Reply). StandsAs size (machine.with_own_kept caller own (with_lag caller (Some (first_lag m)) m)) (k + 1) (flow.enroll own s) (with_owner (gives (caller_name caller) (call.Subscribe (caller_name caller) own) x) owners)) (sym e)
              (subscribed size k owners m s st rises caller near own is ((in_order_keeps s rises).enrolls own)),
        ))

    -- ---- next

    -- what the subscriber of this number receives
    abbrev pub NextStands : ℕ → List ℕ → ℕ → Type 0
    NextStands u own lag =
        ((answer_to (call.TakeNext u) s).reply ≡ reply.Received (next_told (next_value own lag m.values)))
        × StandsAs size (receive_by caller own (Some lag) m) (k + 1) (answer_to (call.TakeNext u) s).after owners

    -- the same of an emitted value
    abbrev EmittedStands : ℕ → Replied (Next ℕ) ℕ → Type 0
    EmittedStands lag a = (reply_by reply.Received a.reply ≡ reply.Received (next_told (value_at lag m.values))) × StandsAs size (receive_by caller [] (Some lag) m) (k + 1) a.after owners

    next_by_own : (lag : ℕ) (own : List ℕ) (seat : IsSeated owners s.subscribers (length s.emitted) caller lag (own_left caller m.owns)) → kept_of caller m.lags ≡ Some lag → own_of seat.number s.subscribers ≡ own
        → NextStands seat.number own lag
    next_by_own lag (v ∷ own) seat is e =
        subst (λ (vs : List ℕ). (reply_by reply.Received (flow.next_from seat.number vs s).reply ≡ reply.Received (next.Value v)) × StandsAs size (machine.with_own_kept caller own m) (k + 1) (flow.next_from seat.number vs s).after owners) (sym e) (
          refl,
          later size k owners (machine.with_own_kept caller own m) (flow.keep_own seat.number own s)
              (took size k owners m s st rises caller near lag v own seat is ((in_order_keeps s rises).takes_own seat.number v own e)),
        )
    next_by_own lag [] seat is e =
        subst (λ (vs : List ℕ). (reply_by reply.Received (flow.next_from seat.number vs s).reply ≡ reply.Received (next_told (value_at lag m.values))) × StandsAs size (receive_by caller [] (Some lag) m) (k + 1) (flow.next_from seat.number vs s).after owners) (sym e)
        (subst (λ (o : Option ℕ). EmittedStands lag (option_map_or (λ position. flow.read seat.number position s) o (answer next.Gone s))) (sym seat.stands)
        (by_lag lag seat is (value_same seat.position lag seat.reach (let low = lag_upto m.lags caller lag is in let upto = st.values.most_kept in omega arith))))
      where
        one_less : (lag : ℕ) → receive_by caller [] (Some (suc lag)) m ≡ settle_kept (with_lag caller (Some lag) m)
        one_less lag =
            let less : suc lag - 1 ≡ lag = omega arith in
            cond-false (suc lag == 0) m (settle_kept (with_lag caller (Some (suc lag - 1)) m)) (ne_eqb (suc lag) 0 (λ z. absurd (omega arith))) ∙ ap (λ (n : ℕ). settle_kept (with_lag caller (Some n) m)) less

        by_lag : (lag : ℕ) (seat : IsSeated owners s.subscribers (length s.emitted) caller lag (own_left caller m.owns)) → kept_of caller m.lags ≡ Some lag → slice_get (law.values s) seat.position ≡ value_at lag m.values
            → (reply_by reply.Received (flow.read seat.number seat.position s).reply ≡ reply.Received (next_told (value_at lag m.values))) × StandsAs size (receive_by caller [] (Some lag) m) (k + 1) (flow.read seat.number seat.position s).after owners
        by_lag zero seat is same =
            subst (λ (o : Option ℕ). (reply_by reply.Received (option_map_or (λ value. answer (next.Value value) (flow.settle (flow.advance seat.number (seat.position + 1) s))) o (answer next.Empty s)).reply ≡ reply.Received (next_told (value_at 0 m.values)))
            × StandsAs size m (k + 1) (option_map_or (λ value. answer (next.Value value) (flow.settle (flow.advance seat.number (seat.position + 1) s))) o (answer next.Empty s)).after owners) (sym (same ∙ value_none m.values))
            (ap (λ (o : Option ℕ). reply.Received (next_told o)) (sym (value_none m.values)), later size k owners m s st)
        by_lag (suc lag) seat is same =
            let low = lag_upto m.lags caller (suc lag) is in
            let upto = st.values.most_kept in
            let found = value_some lag m.values (omega arith) in
            let here = same ∙ found.1 in
            let after = (in_order_keeps s rises).advances seat.number seat.position found.0 seat.stands here in
            let before = unsettled size k owners m s st rises (flow.advance seat.number (seat.position + 1) s) after in
            subst (λ (o : Option ℕ). (reply_by reply.Received (option_map_or (λ value. answer (next.Value value) (flow.settle (flow.advance seat.number (seat.position + 1) s))) o (answer next.Empty s)).reply ≡ reply.Received (next_told (value_at (suc lag) m.values)))
            × StandsAs size (receive_by caller [] (Some (suc lag)) m) (k + 1) (option_map_or (λ value. answer (next.Value value) (flow.settle (flow.advance seat.number (seat.position + 1) s))) o (answer next.Empty s)).after owners) (sym here) (
              ap (λ (o : Option ℕ). reply.Received (next_told o)) (sym found.1),
              subst (λ (n : Kept). StandsAs size n (k + 1) (flow.settle (flow.advance seat.number (seat.position + 1) s)) owners) (sym (one_less lag)) (
                  later size k owners (settle_kept (with_lag caller (Some lag) m)) (flow.settle (flow.advance seat.number (seat.position + 1) s))
                  (settled size k owners (with_lag caller (Some lag) m) (flow.advance seat.number (seat.position + 1) s) (received size k owners m s st rises caller near lag seat is before) before)),
            )

    pub next_told_of : (lag : ℕ) (seat : IsSeated owners s.subscribers (length s.emitted) caller lag (own_left caller m.owns)) → kept_of caller m.lags ≡ Some lag → NextStands seat.number (own_left caller m.owns) lag
    next_told_of lag seat is = next_by_own lag (own_left caller m.owns) seat is seat.left

    -- a number that has no subscriber receives nothing
    pub next_gone : (u : ℕ) → position_of u s.subscribers ≡ None → (answer_to (call.TakeNext u) s).reply ≡ reply.Received next.Gone
    next_gone u e =
        ap (λ (own : List ℕ). reply_by reply.Received (flow.next_from u own s).reply) (own_absent u s.subscribers e)
        ∙ ap (λ (o : Option ℕ). reply_by reply.Received (option_map_or (λ position. flow.read u position s) o (answer next.Gone s)).reply) e

    -- ---- unsubscribe

    pub left_told : (lag : ℕ) (seat : IsSeated owners s.subscribers (length s.emitted) caller lag (own_left caller m.owns)) → kept_of caller m.lags ≡ Some lag
        → StandsAs size (settle_kept (machine.with_own_kept caller [] (with_lag caller None m))) (k + 1) (answer_to (call.Unsubscribe seat.number) s).after owners
    left_told lag seat is =
        let after = (in_order_keeps s rises).leaves seat.number in
        let before = unsettled size k owners m s st rises (flow.leave seat.number s) after in
        later size k owners (settle_kept (machine.with_own_kept caller [] (with_lag caller None m))) (flow.settle (flow.leave seat.number s))
        (settled size k owners (machine.with_own_kept caller [] (with_lag caller None m)) (flow.leave seat.number s) (left size k owners m s st rises caller near lag seat is before) before)

    -- ---- cancel

    pub cancel_told : (e : ℕ) → IsEmitter caller e owners → flow.is_waiting e s ≡ true → StandsAs size (cancel_kept caller m) (k + 1) (answer_to (call.Cancel e) s).after owners
    cancel_told e own waiting =
        later size k owners (cancel_kept caller m) (flow.settle (flow.withdraw e s)) (cancelled size k owners m s st rises caller e own waiting ((in_order_keeps s rises).withdraws e))
