-- An event of the documented shared flow is a step of a checker, and so is a recorded call that adds no event. Begin with
-- `follows_history`.
use Rattle.std.proofs.Common.{◌≡◌, ℕ, ◌+◌, ◌<◌, Bool, true, false, not, cond, List, [], ◌∷◌, ◌++◌, length, Option, Some, None, refl, sym, ap, ◌∙◌, subst, inl, inr, append-nil}
use Rattle.std.specs.Prelude.{is_some}
use Rattle.std.proofs.lemmas.Bool.{cond-false}
use Rattle.flow_law.specs.declared.config.Config.{Config}
use Rattle.flow_law.specs.declared.outcome.Next.{Next}
use Rattle.flow_law.specs.declared.outcome.Next.TheVariants as next
use Rattle.flow_law.specs.declared.call.SharedCall.TheVariants as call
use Rattle.flow_law.specs.declared.call.SharedReply.TheVariants as reply
use Rattle.flow_law.specs.history.Growth.{event}
use Rattle.flow_law.specs.history.Promise.{said}
use Rattle.flow_law.specs.history.History.{Owner, with_owner, owners_all, IsHistory}
use Rattle.flow_law.specs.declared.states.SharedFlowState.{SharedFlowState}
use Rattle.flow_law.specs.flow.SharedFlow.{position_of}
use Rattle.flow_law.specs.flow.SharedStep as flow
use Rattle.flow_law.specs.flow.SharedHistory.{History, shared_flow, shared_after_all, answer_to, is_refused, gives}
use Rattle.flow_law.proofs.Owners.{history_left, legal_right, owned_right}
use Rattle.flow_check.specs.declared.shared_calls.SharedOperation.{SharedOperation}
use Rattle.flow_check.specs.declared.shared_calls.SharedOperation.TheVariants as operation
use Rattle.flow_check.specs.declared.shared_calls.SharedAnswer.{SharedAnswer}
use Rattle.flow_check.specs.declared.shared_calls.SharedAnswer.TheVariants as answer
use Rattle.flow_check.specs.declared.shared_calls.SharedEntry.{SharedEntry}
use Rattle.flow_check.specs.Records.{CallsByCaller}
use Rattle.flow_check.specs.Remaining.{IsStep}
use Rattle.flow_check.specs.StateRecords.{caller_name}
use Rattle.flow_check.specs.SharedRecords.{call_of, IsRecordedReply, IsRecorded, MayMake, AddsEntry, MayAddNothing}
use Rattle.flow_check.specs.Subscribed.{kept_of, present}
use Rattle.flow_check.specs.SharedMachine.{Kept, done, done_if, cancel_kept, settle_kept, withdraw_kept, tested, counted, cached, same_answer, agrees, kept_cache, next_answer, receive_by, own_answer, own_left, kept_emit_case, try_emit_answer, emitted_answer, is_caller_waiting, next_value, made_kept, trim, stepped, may_skip}
use Rattle.flow_check.proofs.QueueLemmas.{eqb_same, values_same}
use Rattle.flow_check.proofs.Bridging.{Follows}
use Rattle.flow_check.proofs.SharedSeats.{its_seat}
use Rattle.flow_check.proofs.SharedStanding.{StandsAs}
use Rattle.flow_check.proofs.SharedCalls.{later, reset}
use Rattle.flow_check.proofs.SharedSteps.{next_told, try_told, emit_told, free_seat, subscribe_told, next_told_of, next_gone, left_told, cancel_told, cache_same}
use Rattle.flow_check.proofs.SharedReplies.{Reply, same_own, own_agrees, replied_own}
use Rattle.flow_check.proofs.SharedEvents.{first_of, StandsIn, SpeaksOf, in_order, told, goes_on, stays_on}
use Rattle.flow_check.proofs.SharedOffering.{free_mine}

module _ (callers : CallsByCaller SharedEntry) (config : Config) (limit : ℕ) where
  module _ (m : Kept) (k : ℕ) (h : History ℕ) (st : StandsIn callers config limit m k h) (is : IsHistory shared_flow (first_of config limit) h) (caller : ℕ) (near : caller < length callers) where
    abbrev s : SharedFlowState ℕ
    s = shared_after_all (first_of config limit) h

    abbrev owners : List Owner
    owners = owners_all shared_flow [] h

    -- ---- an event is a step

    abbrev Followed : SharedOperation → Option SharedAnswer → History ℕ → Type 0
    Followed op written part = (agrees (own_answer caller op m) written ≡ true) × StandsIn callers config limit (trim (made_kept caller op m)) (k + 1) (h ++ part)

    received_same : (x y : Next ℕ) → reply.Received x ≡ reply.Received y → x ≡ y
    received_same x y q = cc

    next_value_same : (x y : Option ℕ) → next_told x ≡ next_told y → x ≡ y
    next_value_same None None q = refl
    next_value_same None (Some v) q = absurd (cc)
    next_value_same (Some v) None q = absurd (cc)
    next_value_same (Some v) (Some w) q = cc

    told_there : (x : Option ℕ) → next_told x ≡ next.Gone → ⊥
    told_there None q = cc
    told_there (Some v) q = cc

    follows_next : (written : Option SharedAnswer) (n : ℕ) (a : SharedAnswer) (x : Option ℕ) (r : Reply) → IsRecorded written a → r ≡ reply.Received (next_told x) → r ≡ (answer_to (call.TakeNext n) s).reply → SpeaksOf h caller operation.Next n
        → same_answer (emitted_answer x) a ≡ true → Followed operation.Next written (told caller (call.TakeNext n) r ∷ [])
    follows_next written n a x r given is e speaks same = by (position_of n s.subscribers) refl
      where
        by : (o : Option ℕ) → position_of n s.subscribers ≡ o → Followed operation.Next written (told caller (call.TakeNext n) r ∷ [])
        by None at = absurd (told_there x (received_same (next_told x) next.Gone (sym is ∙ e ∙ next_gone (length callers) m k s owners st (in_order config limit h) caller near n at)))
        by (Some p) at =
            let its = its_seat (length callers) m.lags m.owns s.subscribers (length s.emitted) owners st.seats caller n p near speaks at in
            let found = next_told_of (length callers) m k s owners st (in_order config limit h) caller near its.0 its.2.0 its.1 in
            let value = next_value (own_left caller m.owns) its.0 m.values in
            let told_is = sym is ∙ e ∙ ap (λ (u : ℕ). (answer_to (call.TakeNext u) s).reply) (sym its.2.1) ∙ found.0 in
            let value_is = next_value_same x value (received_same (next_told x) (next_told value) told_is) in (
              own_agrees (emitted_answer x) (next_answer (own_left caller m.owns) (kept_of caller m.lags) m.values) written a
                  (ap (λ (lag : Option ℕ). next_answer (own_left caller m.owns) lag m.values) its.1 ∙ ap (λ (y : Option ℕ). Some (emitted_answer y)) (sym value_is)) given same,
              goes_on callers config limit m k h st caller (made_kept caller operation.Next m) (call.TakeNext n) r (ap is_refused is)
                  (subst (λ (y : Reply). StandsAs (length callers) (made_kept caller operation.Next m) (k + 1) (answer_to (call.TakeNext n) s).after (with_owner (gives (caller_name caller) (call.TakeNext n) y) owners)) (sym is)
                  (subst (λ (u : ℕ). StandsAs (length callers) (made_kept caller operation.Next m) (k + 1) (answer_to (call.TakeNext u) s).after owners) its.2.1
                  (subst (λ (y : Option ℕ). StandsAs (length callers) (receive_by caller (own_left caller m.owns) y m) (k + 1) (answer_to (call.TakeNext its.2.0.number) s).after owners) (sym its.1) found.1))),
            )

    -- the event, as it is said of the history's last one
    follows_by : (op : SharedOperation) (written : Option SharedAnswer) (n : ℕ) (a : SharedAnswer) (r : Reply) → IsRecorded written a → IsRecordedReply n op a r → r ≡ (answer_to (call_of caller n op) s).reply → SpeaksOf h caller op n → MayMake s owners caller op
        → Followed op written (told caller (call_of caller n op) r ∷ [])
    follows_by (operation.TryEmit v) written n (answer.Truth b) r given is e speaks may =
        let fresh = ap is_refused is in
        let found = try_told (length callers) m k s owners st (in_order config limit h) caller v r fresh e in
        let same : try_emit_answer (kept_emit_case m) ≡ b = let q = sym found.0 ∙ is in cc in (
          own_agrees (tested b) (Some (tested (try_emit_answer (kept_emit_case m)))) written (answer.Truth b) (ap (λ (y : Bool). Some (tested y)) same) given (same_own (tested b)),
          goes_on callers config limit m k h st caller (made_kept caller (operation.TryEmit v) m) (call.TryEmit v) r fresh
              (subst (λ (y : Reply). StandsAs (length callers) (made_kept caller (operation.TryEmit v) m) (k + 1) (answer_to (call.TryEmit v) s).after (with_owner (gives (caller_name caller) (call.TryEmit v) y) owners)) (sym found.0) found.1),
        )
    follows_by (operation.Emit v) written n answer.Done r given is e speaks may =
        let fresh = ap is_refused is.1 in
        let found = emit_told (length callers) m k s owners st (in_order config limit h) caller v may r fresh e in
        let free = free_mine (length callers) m s owners st.seats st.values (in_order config limit h) st.waits caller may in (
          own_agrees done (done_if (not (is_caller_waiting caller m))) written answer.Done (ap (λ (b : Bool). done_if (not b)) free) given refl,
          goes_on callers config limit m k h st caller (made_kept caller (operation.Emit v) m) (call.Emit v) r fresh found.1,
        )
    follows_by (operation.EmitOrNot v) written n answer.Done r given is e speaks may =
        let fresh = ap is_refused is.1 in
        let found = emit_told (length callers) m k s owners st (in_order config limit h) caller v may r fresh e in
        let free = free_mine (length callers) m s owners st.seats st.values (in_order config limit h) st.waits caller may in (
          own_agrees done (done_if (not (is_caller_waiting caller m))) written answer.Done (ap (λ (b : Bool). done_if (not b)) free) given refl,
          goes_on callers config limit m k h st caller (made_kept caller (operation.EmitOrNot v) m) (call.Emit v) r fresh found.1,
        )
    follows_by operation.EmitCancelled written n answer.Done r given is e speaks may =
        let waiting : flow.is_waiting n s ≡ true = let q = sym is ∙ e in cc in (
          own_agrees done (Some done) written answer.Done refl given refl,
          goes_on callers config limit m k h st caller (made_kept caller operation.EmitCancelled m) (call.Cancel n) r (ap is_refused is)
              (subst (λ (y : Reply). StandsAs (length callers) (made_kept caller operation.EmitCancelled m) (k + 1) (answer_to (call.Cancel n) s).after (with_owner (gives (caller_name caller) (call.Cancel n) y) owners)) (sym is)
              (cancel_told (length callers) m k s owners st (in_order config limit h) caller near n speaks waiting)),
        )
    follows_by (operation.Subscribe own) written n answer.Done r given is e speaks may =
        let fresh = ap is_refused is in
        let none = free_seat (length callers) m k s owners st (in_order config limit h) caller near may in
        let found = subscribe_told (length callers) m k s owners st (in_order config limit h) caller near own.now none r fresh e in (
          own_agrees done (done_if (not (is_some (kept_of caller m.lags)))) written answer.Done (ap (λ (y : Option ℕ). done_if (not (is_some y))) none) given refl,
          goes_on callers config limit m k h st caller (made_kept caller (operation.Subscribe own) m) (call.Subscribe (caller_name caller) own.now) r fresh found.1,
        )
    follows_by operation.Next written n (answer.Value v) r given is e speaks may = follows_next written n (answer.Value v) (Some v) r given is e speaks (eqb_same v)
    follows_by operation.Next written n answer.SomeValue r given is e speaks may = follows_next written n answer.SomeValue (Some is.0) r given is.1 e speaks refl
    follows_by operation.Next written n answer.Empty r given is e speaks may = follows_next written n answer.Empty None r given is e speaks refl
    follows_by operation.Unsubscribe written n answer.Done r given is e speaks may = by (position_of n s.subscribers) refl (sym is ∙ e)
      where
        by : (o : Option ℕ) → position_of n s.subscribers ≡ o → ◌≡◌ {A = Reply} (reply.Tested true) (reply.Tested (is_some (position_of n s.subscribers))) → Followed operation.Unsubscribe written (told caller (call.Unsubscribe n) r ∷ [])
        by None at q = let no : ◌≡◌ {A = Reply} (reply.Tested true) (reply.Tested false) = q ∙ ap (λ (y : Option ℕ). reply.Tested (is_some y)) at in absurd (cc)
        by (Some p) at q =
            let its = its_seat (length callers) m.lags m.owns s.subscribers (length s.emitted) owners st.seats caller n p near speaks at in (
              own_agrees done (done_if (is_some (kept_of caller m.lags))) written answer.Done (ap (λ (y : Option ℕ). done_if (is_some y)) its.1) given refl,
              goes_on callers config limit m k h st caller (made_kept caller operation.Unsubscribe m) (call.Unsubscribe n) r (ap is_refused is)
                  (subst (λ (y : Reply). StandsAs (length callers) (made_kept caller operation.Unsubscribe m) (k + 1) (answer_to (call.Unsubscribe n) s).after (with_owner (gives (caller_name caller) (call.Unsubscribe n) y) owners)) (sym is)
                  (subst (λ (u : ℕ). StandsAs (length callers) (made_kept caller operation.Unsubscribe m) (k + 1) (answer_to (call.Unsubscribe u) s).after owners) its.2.1
                  (left_told (length callers) m k s owners st (in_order config limit h) caller near its.0 its.2.0 its.1))),
            )
    follows_by operation.ReplayCache written n (answer.Values ws) r given is e speaks may =
        let same : ws.now ≡ kept_cache m = same_cache (sym is ∙ e) ∙ cache_same (length callers) m k s owners st (in_order config limit h) in (
          own_agrees (cached ws.now) (Some (cached (kept_cache m))) written (answer.Values ws) (ap (λ (vs : List ℕ). Some (cached vs)) (sym same)) given (values_same ws.now),
          goes_on callers config limit m k h st caller m call.ReplayCache r (ap is_refused is)
              (subst (λ (y : Reply). StandsAs (length callers) m (k + 1) s (with_owner (gives (caller_name caller) call.ReplayCache y) owners)) (sym is) (later (length callers) k owners m s st)),
        )
      where
        same_cache : {vs ws : List ℕ} → reply.Cached vs ≡ reply.Cached ws → vs ≡ ws
        same_cache q = cc
    follows_by operation.ResetReplayCache written n answer.Done r given is e speaks may = (
      own_agrees done (Some done) written answer.Done refl given refl,
      goes_on callers config limit m k h st caller (record m { cached = 0 }) call.ResetReplayCache r (ap is_refused is)
          (subst (λ (y : Reply). StandsAs (length callers) (record m { cached = 0 }) (k + 1) (flow.forget s) (with_owner (gives (caller_name caller) call.ResetReplayCache y) owners)) (sym is)
          (later (length callers) k owners (record m { cached = 0 }) (flow.forget s) (reset (length callers) k owners m s st (in_order config limit h)))),
    )
    follows_by operation.SubscriptionCount written n (answer.Number c) r given is e speaks may =
        let same : c ≡ length s.subscribers = let q = sym is ∙ e in cc in (
          own_agrees (counted c) (Some (counted (present m.lags))) written (answer.Number c) (ap (λ (y : ℕ). Some (counted y)) (sym st.seats.count ∙ sym same)) given (eqb_same c),
          goes_on callers config limit m k h st caller m call.SubscriptionCount r (ap is_refused is)
              (subst (λ (y : Reply). StandsAs (length callers) m (k + 1) s (with_owner (gives (caller_name caller) call.SubscriptionCount y) owners)) (sym is) (later (length callers) k owners m s st)),
        )
    follows_by _ written n a r given is e speaks may = absurd is

    step_of : (op : SharedOperation) (written : Option SharedAnswer) → agrees (own_answer caller op m) written ≡ true → stepped m caller (record { operation = op; answer = written }) ≡ Some (trim (made_kept caller op m))
    step_of op written agreed = subst (λ (b : Bool). cond b (Some (trim (made_kept caller op m))) None ≡ Some (trim (made_kept caller op m))) (sym agreed) refl

    -- nothing happened
    follows_nothing : (op : SharedOperation) (written : Option SharedAnswer) → MayAddNothing s owners caller (record { operation = op; answer = written })
        → (next : Kept) × IsStep stepped may_skip m caller (record { operation = op; answer = written }) next × StandsIn callers config limit next (k + 1) (h ++ [])
    follows_nothing operation.EmitReturned written x =
        let free = free_mine (length callers) m s owners st.seats st.values (in_order config limit h) st.waits caller x.1 in
        let agreed = own_agrees done (done_if (not (is_caller_waiting caller m))) written answer.Done (ap (λ (b : Bool). done_if (not b)) free) x.0 refl in
        (trim m, inl (step_of operation.EmitReturned written agreed), stays_on callers config limit m k h st m refl)
    follows_nothing operation.EmitCancelled written x =
        let free = free_mine (length callers) m s owners st.seats st.values (in_order config limit h) st.waits caller x.1 in
        let agreed = own_agrees done (Some done) written answer.Done refl x.0 refl in
        (trim (cancel_kept caller m), inl (step_of operation.EmitCancelled written agreed), stays_on callers config limit m k h st (cancel_kept caller m) (cond-false (is_caller_waiting caller m) (settle_kept (withdraw_kept caller m)) m free))
    follows_nothing (operation.EmitOrNot v) written x = (m, inr (refl, refl), subst (λ (p : History ℕ). StandsIn callers config limit m (k + 1) p) (sym (append-nil h)) (later (length callers) k owners m s st))
    follows_nothing _ written x = absurd x

  pub follows_history : Follows stepped may_skip shared_flow (AddsEntry (first_of config limit)) callers (first_of config limit) (StandsIn callers config limit)
  follows_history m k h caller entry part st near x is = elim x [
    | inl y ↦
        let op = entry.operation in
        let c = call_of caller y.number op in
        let e = event (caller_name caller) 0 (said c y.replied) in
        let all = subst (λ (p : History ℕ). IsHistory shared_flow (first_of config limit) (h ++ p)) y.is_event is in
        let before = history_left shared_flow (first_of config limit) h (e ∷ []) all in
        let replies = (legal_right shared_flow (first_of config limit) h (e ∷ []) all.legal).0 in
        let speaks = (owned_right shared_flow [] h (e ∷ []) all.owned).0 in
        let followed = follows_by m k h st before caller near op entry.answer y.number y.given y.replied y.is_recorded y.is_reply
        (replied_own (shared_after_all (first_of config limit) h) c y.replied (fresh_of y.number op y.given y.replied y.is_reply) replies) speaks y.may_make in (
          trim (made_kept caller op m),
          inl (subst (λ (b : Bool). cond b (Some (trim (made_kept caller op m))) None ≡ Some (trim (made_kept caller op m))) (sym followed.0) refl),
          subst (λ (p : History ℕ). StandsIn callers config limit (trim (made_kept caller op m)) (k + 1) (h ++ p)) (sym y.is_event) followed.1,
        )
    | inr y ↦
        let before = subst (IsHistory shared_flow (first_of config limit)) (append-nil h) (subst (λ (p : History ℕ). IsHistory shared_flow (first_of config limit) (h ++ p)) y.0 is) in
        let followed = follows_nothing m k h st before caller near entry.operation entry.answer y.1 in
        (followed.0, followed.1, subst (λ (p : History ℕ). StandsIn callers config limit followed.0 (k + 1) (h ++ p)) (sym y.0) followed.2)
  ]
    where
      -- a recorded answer is no refusal
      fresh_of : (n : ℕ) (op : SharedOperation) (a : SharedAnswer) (r : Reply) → IsRecordedReply n op a r → is_refused r ≡ false
      fresh_of n (operation.TryEmit v) (answer.Truth b) r e = ap is_refused e
      fresh_of n (operation.Emit v) answer.Done r e = ap is_refused e.1
      fresh_of n (operation.EmitOrNot v) answer.Done r e = ap is_refused e.1
      fresh_of n operation.EmitCancelled answer.Done r e = ap is_refused e
      fresh_of n (operation.Subscribe own) answer.Done r e = ap is_refused e
      fresh_of n operation.Next (answer.Value v) r e = ap is_refused e
      fresh_of n operation.Next answer.SomeValue r e = ap is_refused e.1
      fresh_of n operation.Next answer.Empty r e = ap is_refused e
      fresh_of n operation.Unsubscribe answer.Done r e = ap is_refused e
      fresh_of n operation.ReplayCache (answer.Values vs) r e = ap is_refused e
      fresh_of n operation.ResetReplayCache answer.Done r e = ap is_refused e
      fresh_of n operation.SubscriptionCount (answer.Number c) r e = ap is_refused e
      fresh_of n _ _ r e = absurd e
