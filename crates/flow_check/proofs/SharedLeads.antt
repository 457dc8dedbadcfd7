-- A step of a checker of shared flows is an event of the documented flow, or none. Begin with `leads_history`.
use Rattle.std.proofs.Common.{◌≡◌, ℕ, ◌+◌, ◌<◌, Bool, true, false, not, List, [], ◌∷◌, ◌++◌, length, Option, Some, None, refl, sym, ap, ◌∙◌, subst, inl, inr, arith, ne_eqb, append-nil}
use Rattle.std.specs.Prelude.{is_some}
use Rattle.std.proofs.lemmas.Bool.{false≢true, cond-false}
use Rattle.std.proofs.lemmas.Option.{same_Some, cond_some}
use Rattle.std.specs.Borrow.{Bor}
use Rattle.flow_law.specs.declared.config.Config.{Config}
use Rattle.flow_law.specs.declared.outcome.Next.TheVariants as next
use Rattle.flow_law.specs.declared.call.SharedCall.TheVariants as call
use Rattle.flow_law.specs.declared.call.SharedReply.TheVariants as reply
use Rattle.flow_law.specs.history.History.{Owner, with_owner, owners_all, IsHistory}
use Rattle.flow_law.specs.declared.states.SharedFlowState.{SharedFlowState}
use Rattle.flow_law.specs.flow.SharedFlow.{is_exhausted}
use Rattle.flow_law.specs.flow.EmitRule as rule
use Rattle.flow_law.specs.flow.SharedStep as flow
use Rattle.flow_law.specs.flow.SharedHistory.{History, shared_flow, shared_after_all, answer_to, is_refused, gives}
use Rattle.flow_law.proofs.HistoryLemmas.{IsHistory-snoc}
use Rattle.flow_law.proofs.Moves.{history_keeps}
use Rattle.flow_check.specs.declared.shared_calls.SharedOperation.{SharedOperation}
use Rattle.flow_check.specs.declared.shared_calls.SharedOperation.TheVariants as operation
use Rattle.flow_check.specs.declared.shared_calls.SharedAnswer.{SharedAnswer}
use Rattle.flow_check.specs.declared.shared_calls.SharedAnswer.TheVariants as answer
use Rattle.flow_check.specs.declared.shared_calls.SharedEntry.{SharedEntry}
use Rattle.flow_check.specs.Records.{CallsByCaller}
use Rattle.flow_check.specs.StateRecords.{caller_name}
use Rattle.flow_check.specs.SharedRecords.{call_of, IsRecordedReply, IsRecorded, MayMake, AddsEntry, MayAddNothing}
use Rattle.flow_check.specs.Subscribed.{kept_of, present}
use Rattle.flow_check.specs.SharedMachine.{Kept, OwnAnswer, done, done_if, cancel_kept, settle_kept, withdraw_kept, tested, counted, cached, same_answer, agrees, kept_cache, next_answer, receive_by, may_skip_operation, own_answer, own_left, kept_emit_case, try_emit_answer, emitted_answer, is_caller_waiting, next_value, made_kept, trim, stepped, may_skip}
use Rattle.flow_check.proofs.QueueLemmas.{eqb_is, values_are}
use Rattle.flow_check.proofs.Bridging.{Leads}
use Rattle.flow_check.proofs.SharedSeats.{Seat}
use Rattle.flow_check.proofs.SharedStanding.{StandsAs}
use Rattle.flow_check.proofs.SharedCalls.{later, reset}
use Rattle.flow_check.proofs.SharedSteps.{next_told, try_told, emit_told, no_seat, subscribe_told, next_told_of, left_told, cancel_told, cache_same}
use Rattle.flow_check.proofs.SharedReplies.{Reply, Recorded, recorded_own, done_is, tested_is, counted_is, replies_of, fresh_try, fresh_emit, fresh_subscribe, limit_keeps}
use Rattle.flow_check.proofs.SharedEvents.{first_of, StandsIn, SpeaksOf, in_order, told, goes_on, stays_on}
use Rattle.flow_check.proofs.SharedOffering.{free_theirs, waits_theirs}

module _ (callers : CallsByCaller SharedEntry) (config : Config) (limit : ℕ) where
  module _ (m : Kept) (k : ℕ) (h : History ℕ) (st : StandsIn callers config limit m k h) (is : IsHistory shared_flow (first_of config limit) h) (caller : ℕ) (near : caller < length callers) where
    abbrev s : SharedFlowState ℕ
    s = shared_after_all (first_of config limit) h

    abbrev owners : List Owner
    owners = owners_all shared_flow [] h

    abbrev Led : SharedOperation → Option SharedAnswer → Type 0
    Led op written = (part : History ℕ) × AddsEntry (first_of config limit) h caller (record { operation = op; answer = written }) part × IsHistory shared_flow (first_of config limit) (h ++ part) × StandsIn callers config limit (trim (made_kept caller op m)) (k + 1) (h ++ part)

    by_event : (op : SharedOperation) (written : Option SharedAnswer) (n : ℕ) (a : SharedAnswer) (r : Reply) → IsRecorded written a → IsRecordedReply n op a r → is_refused r ≡ false → r ≡ (answer_to (call_of caller n op) s).reply
        → SpeaksOf h caller op n → MayMake s owners caller op
        → StandsAs (length callers) (made_kept caller op m) (k + 1) (answer_to (call_of caller n op) s).after (with_owner (gives (caller_name caller) (call_of caller n op) r) owners) → Led op written
    by_event op written n a r recorded replies fresh e speaks may stands =
        let c = call_of caller n op in (
          told caller c r ∷ [],
          inl (record { number = n; given = a; replied = r; is_recorded = recorded; is_reply = replies; is_event = refl {a = told caller c r ∷ []}; may_make = may }),
          IsHistory-snoc shared_flow (first_of config limit) h (told caller c r) is (replies_of s c r fresh e) speaks,
          goes_on callers config limit m k h st caller (made_kept caller op m) c r fresh stands,
        )

    -- ---- a step is an event

    limit_is : s.config.limit ≡ limit
    limit_is = history_keeps (λ t. t.config.limit ≡ limit) (limit_keeps limit) (first_of config limit) h refl

    has_room : k < limit → is_exhausted s ≡ false
    has_room few = let upto = st.issued in let is = limit_is in ne_eqb s.issued s.config.limit (λ z. absurd (omega arith))

    done_if_is : (b : Bool) (o : OwnAnswer) → done_if b ≡ Some o → (b ≡ true) × (o ≡ done)
    done_if_is true o e = (refl, sym (same_Some done o e))
    done_if_is false o e = absurd (cc)

    not_true : (b : Bool) → not b ≡ true → b ≡ false
    not_true true e = absurd (false≢true e)
    not_true false e = refl

    recorded_done : (written : Option SharedAnswer) (o : OwnAnswer) → o ≡ done → Recorded written o → IsRecorded written answer.Done
    recorded_done written o e x = subst (IsRecorded written) (done_is x.0 (subst (λ (y : OwnAnswer). same_answer y x.0 ≡ true) e x.2)) x.1

    leads_try : (v : ℕ) (written : Option SharedAnswer) (o : OwnAnswer) → tested (try_emit_answer (kept_emit_case m)) ≡ o → Recorded written o → k < limit → Led (operation.TryEmit v) written
    leads_try v written o e x few =
        let r = (answer_to (call.TryEmit v) s).reply in
        let fresh = fresh_try s (has_room few) v (rule.emit_case s) in
        let found = try_told (length callers) m k s owners st (in_order config limit h) caller v r fresh refl in
        let given = tested_is (try_emit_answer (kept_emit_case m)) x.0 (subst (λ (y : OwnAnswer). same_answer y x.0 ≡ true) (sym e) x.2) in
        by_event (operation.TryEmit v) written 0 (answer.Truth (try_emit_answer (kept_emit_case m))) r (subst (IsRecorded written) given x.1) found.0 fresh refl tt tt
        (subst (λ (y : Reply). StandsAs (length callers) (made_kept caller (operation.TryEmit v) m) (k + 1) (answer_to (call.TryEmit v) s).after (with_owner (gives (caller_name caller) (call.TryEmit v) y) owners)) (sym found.0) found.1)

    leads_emit : (v : ℕ) (written : Option SharedAnswer) → is_caller_waiting caller m ≡ false → IsRecorded written answer.Done → k < limit → Led (operation.Emit v) written
    leads_emit v written free given few =
        let r = (answer_to (call.Emit v) s).reply in
        let fresh = fresh_emit s (has_room few) v (rule.emit_case s) in
        let none = free_theirs (length callers) m s owners st.seats st.values (in_order config limit h) st.waits caller free in
        let found = emit_told (length callers) m k s owners st (in_order config limit h) caller v none r fresh refl in
        by_event (operation.Emit v) written 0 answer.Done r given found.0 fresh refl tt none found.1

    leads_emit_or_not : (v : ℕ) (written : Option SharedAnswer) → is_caller_waiting caller m ≡ false → IsRecorded written answer.Done → k < limit → Led (operation.EmitOrNot v) written
    leads_emit_or_not v written free given few =
        let r = (answer_to (call.Emit v) s).reply in
        let fresh = fresh_emit s (has_room few) v (rule.emit_case s) in
        let none = free_theirs (length callers) m s owners st.seats st.values (in_order config limit h) st.waits caller free in
        let found = emit_told (length callers) m k s owners st (in_order config limit h) caller v none r fresh refl in
        by_event (operation.EmitOrNot v) written 0 answer.Done r given found.0 fresh refl tt none found.1

    leads_returned : (written : Option SharedAnswer) → is_caller_waiting caller m ≡ false → IsRecorded written answer.Done → Led operation.EmitReturned written
    leads_returned written free given =
        let none = free_theirs (length callers) m s owners st.seats st.values (in_order config limit h) st.waits caller free in
        ([], inr (refl, (given, none)), subst (IsHistory shared_flow (first_of config limit)) (sym (append-nil h)) is, stays_on callers config limit m k h st m refl)

    leads_cancelled : (written : Option SharedAnswer) → IsRecorded written answer.Done → (b : Bool) → is_caller_waiting caller m ≡ b → Led operation.EmitCancelled written
    leads_cancelled written given true e =
        let found = waits_theirs (length callers) m s owners st.seats st.values (in_order config limit h) st.waits caller e in
        by_event operation.EmitCancelled written found.0 answer.Done (reply.Tested true) given refl refl (ap reply.Tested (sym found.2)) found.1 tt
        (cancel_told (length callers) m k s owners st (in_order config limit h) caller near found.0 found.1 found.2)
    leads_cancelled written given false e =
        let none = free_theirs (length callers) m s owners st.seats st.values (in_order config limit h) st.waits caller e in (
          [],
          inr (refl, (given, none)),
          subst (IsHistory shared_flow (first_of config limit)) (sym (append-nil h)) is,
          stays_on callers config limit m k h st (cancel_kept caller m) (cond-false (is_caller_waiting caller m) (settle_kept (withdraw_kept caller m)) m e),
        )

    -- with its own first values, whose list is `own.now`
    leads_subscribe : (own : Bor (List ℕ)) (written : Option SharedAnswer) → kept_of caller m.lags ≡ None → IsRecorded written answer.Done → k < limit → Led (operation.Subscribe own) written
    leads_subscribe own written none given few =
        let c = call.Subscribe (caller_name caller) own.now in
        let r = (answer_to c s).reply in
        let fresh = fresh_subscribe s (has_room few) own.now in
        let found = subscribe_told (length callers) m k s owners st (in_order config limit h) caller near own.now none r fresh refl in
        by_event (operation.Subscribe own) written (s.issued + 1) answer.Done r given found.0 fresh refl tt (no_seat (length callers) m k s owners st (in_order config limit h) caller near none) found.1

    -- what is received is recorded
    next_is : (n : ℕ) (x : Option ℕ) (a : SharedAnswer) → same_answer (emitted_answer x) a ≡ true → IsRecordedReply n operation.Next a (reply.Received (next_told x))
    next_is n None answer.Empty e = refl
    next_is n (Some v) (answer.Value w) e = ap (λ (y : ℕ). reply.Received (next.Value y)) (eqb_is v w e)
    next_is n (Some v) answer.SomeValue e = (v, refl)
    next_is n None _ e = absurd (false≢true e)
    next_is n (Some v) _ e = absurd (false≢true e)

    leads_next : (lag : Option ℕ) (written : Option SharedAnswer) (o : OwnAnswer) → kept_of caller m.lags ≡ lag → next_answer (own_left caller m.owns) lag m.values ≡ Some o → Recorded written o → Led operation.Next written
    leads_next None written o is e x = absurd (cc)
    leads_next (Some lag) written o is e x =
        let seat = subst (λ (y : Option ℕ). Seat owners s.subscribers (length s.emitted) caller y (own_left caller m.owns)) is (st.seats.seats caller near) in
        let found = next_told_of (length callers) m k s owners st (in_order config limit h) caller near lag seat is in
        let value = next_value (own_left caller m.owns) lag m.values in
        let same = subst (λ (y : OwnAnswer). same_answer y x.0 ≡ true) (sym (same_Some (emitted_answer value) o e)) x.2 in
        by_event operation.Next written seat.number x.0 (reply.Received (next_told value)) x.1 (next_is seat.number value x.0 same) refl (sym found.0) seat.is_own tt
        (subst (λ (y : Option ℕ). StandsAs (length callers) (receive_by caller (own_left caller m.owns) y m) (k + 1) (answer_to (call.TakeNext seat.number) s).after owners) (sym is) found.1)

    leads_unsubscribe : (lag : Option ℕ) (written : Option SharedAnswer) → kept_of caller m.lags ≡ lag → is_some lag ≡ true → IsRecorded written answer.Done → Led operation.Unsubscribe written
    leads_unsubscribe None written is some given = absurd (false≢true some)
    leads_unsubscribe (Some lag) written is some given =
        let seat = subst (λ (y : Option ℕ). Seat owners s.subscribers (length s.emitted) caller y (own_left caller m.owns)) is (st.seats.seats caller near) in
        by_event operation.Unsubscribe written seat.number answer.Done (reply.Tested true) given refl refl (ap (λ (y : Option ℕ). reply.Tested (is_some y)) (sym seat.stands)) seat.is_own tt
        (left_told (length callers) m k s owners st (in_order config limit h) caller near lag seat is)

    leads_cache : (written : Option SharedAnswer) → Recorded written (cached (kept_cache m)) → Led operation.ReplayCache written
    leads_cache written x = by x.0 x.1 x.2
      where
        by : (a : SharedAnswer) → IsRecorded written a → same_answer (cached (kept_cache m)) a ≡ true → Led operation.ReplayCache written
        by (answer.Values ws) given e =
            let is = values_are (kept_cache m) ws.now e in
            by_event operation.ReplayCache written 0 (answer.Values ws) (reply.Cached ws.now) given refl refl (ap reply.Cached (sym is ∙ sym (cache_same (length callers) m k s owners st (in_order config limit h)))) tt tt
            (later (length callers) k owners m s st)
        by _ given e = absurd (false≢true e)

    leads_count : (written : Option SharedAnswer) → Recorded written (counted (present m.lags)) → Led operation.SubscriptionCount written
    leads_count written x =
        by_event operation.SubscriptionCount written 0 (answer.Number (present m.lags)) (reply.Counted (present m.lags)) (subst (IsRecorded written) (counted_is (present m.lags) x.0 x.2) x.1) refl refl (ap reply.Counted (sym st.seats.count)) tt tt
        (later (length callers) k owners m s st)

    leads_reset : (written : Option SharedAnswer) → IsRecorded written answer.Done → Led operation.ResetReplayCache written
    leads_reset written given =
        by_event operation.ResetReplayCache written 0 answer.Done reply.Reset given refl refl refl tt tt
        (later (length callers) k owners (record m { cached = 0 }) (flow.forget s) (reset (length callers) k owners m s st (in_order config limit h)))

    done_of : (b : Bool) (written : Option SharedAnswer) (o : OwnAnswer) → done_if b ≡ Some o → Recorded written o → (b ≡ true) × IsRecorded written answer.Done
    done_of b written o e x = let d = done_if_is b o e in (d.0, recorded_done written o d.1 x)

    leads_by : (op : SharedOperation) (written : Option SharedAnswer) (o : OwnAnswer) → own_answer caller op m ≡ Some o → Recorded written o → k < limit → Led op written
    leads_by (operation.TryEmit v) written o e x few = leads_try v written o (same_Some (tested (try_emit_answer (kept_emit_case m))) o e) x few
    leads_by (operation.Emit v) written o e x few = let d = done_of (not (is_caller_waiting caller m)) written o e x in leads_emit v written (not_true (is_caller_waiting caller m) d.0) d.1 few
    leads_by (operation.EmitOrNot v) written o e x few = let d = done_of (not (is_caller_waiting caller m)) written o e x in leads_emit_or_not v written (not_true (is_caller_waiting caller m) d.0) d.1 few
    leads_by operation.EmitReturned written o e x few = let d = done_of (not (is_caller_waiting caller m)) written o e x in leads_returned written (not_true (is_caller_waiting caller m) d.0) d.1
    leads_by operation.EmitCancelled written o e x few = leads_cancelled written (recorded_done written o (sym (same_Some done o e)) x) (is_caller_waiting caller m) refl
    leads_by (operation.Subscribe own) written o e x few =
        let d = done_of (not (is_some (kept_of caller m.lags))) written o e x in
        leads_subscribe own written (none_of (kept_of caller m.lags) (not_true (is_some (kept_of caller m.lags)) d.0)) d.1 few
      where
        none_of : (lag : Option ℕ) → is_some lag ≡ false → lag ≡ None
        none_of None e = refl
        none_of (Some lag) e = absurd (false≢true (sym e))
    leads_by operation.Next written o e x few = leads_next (kept_of caller m.lags) written o refl e x
    leads_by operation.Unsubscribe written o e x few = let d = done_of (is_some (kept_of caller m.lags)) written o e x in leads_unsubscribe (kept_of caller m.lags) written refl d.0 d.1
    leads_by operation.ReplayCache written o e x few = leads_cache written (subst (Recorded written) (sym (same_Some (cached (kept_cache m)) o e)) x)
    leads_by operation.ResetReplayCache written o e x few = leads_reset written (recorded_done written o (sym (same_Some done o e)) x)
    leads_by operation.SubscriptionCount written o e x few = leads_count written (subst (Recorded written) (sym (same_Some (counted (present m.lags)) o e)) x)

  pub leads_history : Leads stepped may_skip shared_flow (AddsEntry (first_of config limit)) callers (first_of config limit) (StandsIn callers config limit) limit
  leads_history m next k h caller entry st is few near step = elim step [
    | inl e ↦
        let op = entry.operation in
        let w = cond_some (agrees (own_answer caller op m) entry.answer) (trim (made_kept caller op m)) next e in
        let own = recorded_own (own_answer caller op m) entry.answer w.0 in
        let led = leads_by m k h st is caller near op entry.answer own.0 own.1 own.2 few in
        (led.0, led.1, led.2, subst (λ (x : Kept). StandsIn callers config limit x (k + 1) (h ++ led.0)) w.1 led.3)
    | inr e ↦ (
      [],
      inr (refl, skipped entry.operation e.0),
      subst (IsHistory shared_flow (first_of config limit)) (sym (append-nil h)) is,
      subst (λ (p : History ℕ). StandsIn callers config limit next (k + 1) p) (sym (append-nil h)) (subst (λ (x : Kept). StandsIn callers config limit x (k + 1) h) (sym e.1) (later (length callers) k (owners_all shared_flow [] h) m (shared_after_all (first_of config limit) h) st)),
    )
  ]
    where
      skipped : (op : SharedOperation) → may_skip_operation op ≡ true → MayAddNothing (shared_after_all (first_of config limit) h) (owners_all shared_flow [] h) caller (record { operation = op; answer = entry.answer })
      skipped (operation.EmitOrNot v) e = tt
      skipped _ e = absurd (false≢true e)
