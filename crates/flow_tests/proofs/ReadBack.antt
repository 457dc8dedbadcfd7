-- What a caller reads back, from the contracts of `set` and `value`.
use Rattle.std.proofs.Common.{◌≡◌, Bool, true, false, List, [], ◌∷◌, ◌++◌, Result, Ok, Err, IfOk, refl, sym, ap, ◌∙◌, subst, append_assoc}
use Rattle.flow_law.specs.declared.fault.FlowFault.{FlowFault}
use Rattle.flow_law.specs.declared.history.HistoryEvent.{HistoryEvent}
use Rattle.flow_law.specs.declared.history.Said.{Said}
use Rattle.flow_law.specs.declared.call.StateCall.{StateCall}
use Rattle.flow_law.specs.declared.call.StateCall.TheVariants as call
use Rattle.flow_law.specs.declared.call.StateReply.{StateReply}
use Rattle.flow_law.specs.declared.call.StateReply.TheVariants as reply
use Rattle.flow_law.specs.declared.outcome.Next.TheVariants.{Value, Empty, Gone}
use Rattle.flow_law.specs.history.Growth.{event, IsSilent}
use Rattle.flow_law.specs.history.Promise.{said}
use Rattle.flow_law.specs.declared.states.StateFlowState.{StateFlowState}
use Rattle.flow_law.specs.flow.StateFlow.{StateHistory, state_flow_after, state_after_all, state_flow, IsStateHistory}
use Rattle.flow_law.proofs.HistoryLemmas.{after_all-snoc}
use Rattle.flow_law.proofs.Owners.{after_all-append, legal_right}
use Rattle.flow_gate.specs.Tokens.{GateToken, GateOrigin}
use Rattle.flow_core.specs.StateCore.{value_reply}
use Rattle.flow_shared.specs.StateReplies.{StateToken, StateCalls}
use Rattle.flow_tests.specs.ReadingBack.{value_by, value_after, ReadsBack}

module _ {T : Type 0} where
  value_kept : (s : StateFlowState T) (c : StateCall T) (r : StateReply T) → (state_flow_after s c r).value ≡ value_by s.value c r
  value_kept s call.GetValue r = refl
  value_kept s (call.Set x) r = refl
  value_kept s (call.TryEmit x) r = refl
  value_kept s (call.CompareAndSet a b) (reply.Answered true) = refl
  value_kept s (call.CompareAndSet a b) (reply.Answered false) = refl
  value_kept s (call.CompareAndSet a b) reply.Done = refl
  value_kept s (call.CompareAndSet a b) (reply.Got x) = refl
  value_kept s (call.CompareAndSet a b) (reply.Subscribed n) = refl
  value_kept s (call.CompareAndSet a b) (reply.Received n) = refl
  value_kept s (call.CompareAndSet a b) (reply.Counted n) = refl
  value_kept s (call.CompareAndSet a b) (reply.Cached n) = refl
  value_kept s (call.CompareAndSet a b) (reply.Refused n) = refl
  value_kept s (call.Subscribe name) r = subscribed s name r
    where
      subscribed : (s : StateFlowState T) (name : List _) (r : StateReply T) → (state_flow_after s (call.Subscribe name) r).value ≡ s.value
      subscribed s name (reply.Subscribed n) = refl
      subscribed s name r = refl
  value_kept s (call.TakeNext u) r = received s u r
    where
      received : (s : StateFlowState T) (u : _) (r : StateReply T) → (state_flow_after s (call.TakeNext u) r).value ≡ s.value
      received s u (reply.Received (Value x)) = refl
      received s u (reply.Received Empty) = refl
      received s u (reply.Received Gone) = refl
      received s u r = refl
  value_kept s (call.Unsubscribe u) r = left s u r
    where
      left : (s : StateFlowState T) (u : _) (r : StateReply T) → (state_flow_after s (call.Unsubscribe u) r).value ≡ s.value
      left s u (reply.Answered b) = refl
      left s u r = refl
  value_kept s call.SubscriptionCount r = refl
  value_kept s call.ReplayCache r = refl
  value_kept s call.ResetReplayCache r = refl

  values_kept : (s : StateFlowState T) (h : StateHistory T) → (state_after_all s h).value ≡ value_after s.value h
  values_kept s [] = refl
  values_kept s (e ∷ es) = values_kept (state_flow_after s e.what.call e.what.reply) es ∙ ap (λ v. value_after v es) (value_kept s e.what.call e.what.reply)

  pub reads_back : (flow : GateOrigin (StateFlowState T)) (old middle new : StateToken T) (value : T) (answer : Result T FlowFault) → StateCalls flow old (call.Set value) reply.Done middle → StateCalls flow middle call.GetValue (value_reply answer) new
      → IfOk answer (λ found. ReadsBack old.knows value found new.knows)
  reads_back flow old middle new value (Err fault) set read = tt
  reads_back flow old middle new value (Ok found) set read =
      let name = old.knows.name in let one = set.1.grows in let two = read.1.grows in let own : middle.knows.name ≡ name = set.1.name in
      let sets = event name set.1.began (said (call.Set value) reply.Done) in let reads = event name read.1.began (said call.GetValue (reply.Got found)) in
      let h = old.knows.seen ++ one.0 in
      let read_is : new.knows.seen ≡ (middle.knows.seen ++ two.0) ++ reads ∷ [] = two.1 ∙ ap (λ n. (middle.knows.seen ++ two.0) ++ event n read.1.began (said call.GetValue (reply.Got found)) ∷ []) own in
      let seen : new.knows.seen ≡ ((h ++ sets ∷ []) ++ two.0) ++ reads ∷ [] = read_is ∙ ap (λ l. (l ++ two.0) ++ reads ∷ []) one.1 in
      let legal = (subst (IsStateHistory flow.first) seen read.1.history).legal in
      let replied : reply.Got found ≡ reply.Got (state_after_all flow.first ((h ++ sets ∷ []) ++ two.0)).value = (legal_right state_flow flow.first ((h ++ sets ∷ []) ++ two.0) (reads ∷ []) legal).0 in
      record {
        earlier = one.0;
        between = two.0;
        set_began = set.1.began;
        read_began = read.1.began;
        seen = seen;
        earlier_by_others = one.2;
        between_by_others = subst (λ n. IsSilent n two.0) own two.2;
        last_set = same_value found (state_after_all flow.first ((h ++ sets ∷ []) ++ two.0)).value replied
            ∙ ap (λ (s : StateFlowState T). s.value) (after_all-append state_flow flow.first (h ++ sets ∷ []) two.0)
            ∙ values_kept (state_after_all flow.first (h ++ sets ∷ [])) two.0
            ∙ ap (λ (s : StateFlowState T). value_after s.value two.0) (after_all-snoc state_flow flow.first h sets);
      }
    where
      same_value : (a b : T) → reply.Got a ≡ reply.Got b → a ≡ b
      same_value a b e = cc
