-- Why a flow for several threads refuses a call.
use Rattle.std.proofs.Common.{◌≡◌, ◌⊎◌, inl, inr, refl, ℕ, List, Result, Ok, Err, IfErr, Bool, Vec, sym, subst}
use Rattle.flow_law.specs.declared.fault.FlowFault.{FlowFault}
use Rattle.flow_law.specs.declared.fault.FlowFault.TheVariants.{OutOfMemory, TooLarge, NeedsBuffer, Exhausted, Unsupported, Busy}
use Rattle.flow_law.specs.declared.fault.Refused.{Refused}
use Rattle.flow_law.specs.declared.call.SharedCall.TheVariants as call
use Rattle.flow_law.specs.declared.call.SharedReply.{SharedReply}
use Rattle.flow_law.specs.declared.call.SharedReply.TheVariants as reply
use Rattle.flow_law.specs.declared.call.StateCall.TheVariants as state_call
use Rattle.flow_law.specs.declared.states.SharedFlowState.{SharedFlowState}
use Rattle.flow_law.specs.declared.states.StateFlowState.{StateFlowState}
use Rattle.flow_law.specs.declared.history.Said.{Said}
use Rattle.flow_law.specs.history.History.{Kind}
use Rattle.flow_law.specs.history.Lawful.{Lawful}
use Rattle.flow_law.specs.history.Promise.{CallsAtOnceIn}
use Rattle.flow_law.specs.flow.SharedHistory.{shared_flow}
use Rattle.flow_law.specs.flow.StateFlow.{state_flow}
use Rattle.flow_law.proofs.RefusalLemmas.{emit_refused, try_emit_refused, cache_refused, next_refused, subscribe_refused, value_refused, state_cache_refused}
use Rattle.flow_law.proofs.SharedLawful.{shared_lawful}
use Rattle.flow_law.proofs.StateLawful.{state_lawful}
use Rattle.flow_law.proofs.TokenLemmas.{replied_in, next_fault as next_fault_of}
use Rattle.flow_core.specs.SharedCore.{try_emit_reply, cache_reply}
use Rattle.flow_core.specs.StateCore as state
use Rattle.flow_gate.specs.Tokens.{GateOrigin}
use Rattle.flow_shared.specs.SharedReplies.{SharedToken, SharedCalls, EmitsNow, IsEmitFault, EmitRefusedIfDue, emitted_reply}
use Rattle.flow_shared.specs.Calls.{GateNumbered, NextsNow}
use Rattle.flow_shared.specs.StateReplies.{StateToken, StateCalls}
use Rattle.flow_shared.specs.declared.token.Emitted.{Emitted}
use Rattle.flow_shared.specs.declared.token.Emitted.TheVariants as emitted

module _ {T : Type 0} (flow : GateOrigin (SharedFlowState T)) (t u : SharedToken T) where
  pub emit_fault : (v : T) (fault : FlowFault) → SharedCalls flow t (call.Emit v) (reply.Refused fault) u → IsEmitFault fault
  emit_fault v fault called = let there = replied_in shared_flow shared_lawful flow.first t.knows u.knows (call.Emit v) (reply.Refused fault) called.1 in emit_refused there.0 fault v there.1

  pub next_fault : (n : ℕ) (fault : FlowFault) → SharedCalls flow t (call.TakeNext n) (reply.Refused fault) u → fault ≡ OutOfMemory
  next_fault n fault called = let there = replied_in shared_flow shared_lawful flow.first t.knows u.knows (call.TakeNext n) (reply.Refused fault) called.1 in next_refused there.0 fault n there.1

  pub try_emit_fault : (v : T) (result : Result Bool (Refused T)) → SharedCalls flow t (call.TryEmit v) (try_emit_reply result) u → IfErr result (λ refused. refused.fault ≡ Exhausted)
  try_emit_fault v (Ok taken) called = tt
  try_emit_fault v (Err r) called = let there = replied_in shared_flow shared_lawful flow.first t.knows u.knows (call.TryEmit v) (reply.Refused r.fault) called.1 in try_emit_refused there.0 r.fault v there.1

  pub cache_fault : {A : Type 0} (result : Result (Vec T A) FlowFault) → SharedCalls flow t call.ReplayCache (cache_reply result) u → IfErr result (λ fault. fault ≡ OutOfMemory)
  cache_fault (Ok values) called = tt
  cache_fault (Err fault) called = let there = replied_in shared_flow shared_lawful flow.first t.knows u.knows call.ReplayCache (reply.Refused fault) called.1 in cache_refused there.0 fault there.1

-- r is the core's reply, and x the answer to the caller
pub answer_fault : {T A : Type 0} (flow : GateOrigin (SharedFlowState T)) (t u : SharedToken T) (v : T) (r : SharedReply T) (x : Emitted T A) → emitted_reply x ≡ r → SharedCalls flow t (call.Emit v) r u → EmitRefusedIfDue x
answer_fault flow t u v r (emitted.Done u') is called = tt
answer_fault flow t u v r (emitted.Queued e) is called = tt
answer_fault flow t u v r (emitted.Refused u' w fault) is called = emit_fault flow t u v fault (subst (λ z. SharedCalls flow t (call.Emit v) z u) (sym is) called)

module _ {T : Type 0} (flow : GateOrigin (StateFlowState T)) (t u : StateToken T) where
  pub value_fault : (result : Result T FlowFault) → StateCalls flow t state_call.GetValue (state.value_reply result) u → IfErr result (λ fault. fault ≡ OutOfMemory)
  value_fault (Ok value) called = tt
  value_fault (Err fault) called = let there = replied_in state_flow state_lawful flow.first t.knows u.knows state_call.GetValue _ called.1 in value_refused there.0 fault there.1

  pub state_cache_fault : {A : Type 0} (result : Result (Vec T A) FlowFault) → StateCalls flow t state_call.ReplayCache (state.state_cache_reply result) u → IfErr result (λ fault. fault ≡ OutOfMemory)
  state_cache_fault (Ok values) called = tt
  state_cache_fault (Err fault) called = let there = replied_in state_flow state_lawful flow.first t.knows u.knows state_call.ReplayCache _ called.1 in state_cache_refused there.0 fault there.1

module _ {T : Type 0} (flow : GateOrigin (SharedFlowState T)) (t u : SharedToken T) where
  pub subscribe_fault : (name : List ℕ) (first : List T) (fault : FlowFault) → SharedCalls flow t (call.Subscribe name first) (reply.Refused fault) u → IsEmitFault fault
  subscribe_fault name first fault called = let there = replied_in shared_flow shared_lawful flow.first t.knows u.knows (call.Subscribe name first) (reply.Refused fault) called.1 in subscribe_refused there.0 fault name first there.1

module _ {T : Type 0} (A : Type 0) (flow : GateOrigin (SharedFlowState T)) where
  -- an emission that does not wait is refused as `emit` is, or is Busy
  pub emit_now_fault : (t u : SharedToken T) (v w : T) (fault : FlowFault) → EmitsNow {A = A} flow t v (emitted.Refused u w fault) → IsEmitFault fault ⊎ (fault ≡ Busy)
  emit_now_fault t u v w OutOfMemory h = inl (emit_fault flow t u v OutOfMemory h.1.0)
  emit_now_fault t u v w TooLarge h = inl (emit_fault flow t u v TooLarge h.1.0)
  emit_now_fault t u v w NeedsBuffer h = inl (emit_fault flow t u v NeedsBuffer h.1.0)
  emit_now_fault t u v w Exhausted h = inl (emit_fault flow t u v Exhausted h.1.0)
  emit_now_fault t u v w Unsupported h = inl (emit_fault flow t u v Unsupported h.1.0)
  emit_now_fault t u v w Busy h = inr refl

module _ {T S C R : Type 0} (kind : Kind T S C R) (law : Lawful kind) (flow : GateOrigin S) (s u : GateNumbered (Said C R)) where
  given_fault : (fault : FlowFault) → CallsAtOnceIn kind flow.first s.token (kind.take_next s.number) (kind.refused fault) u.token → (fault ≡ OutOfMemory) ⊎ (fault ≡ Busy)
  given_fault fault called = inl (next_fault_of kind law flow.first s.token.knows u.token.knows s.number (Err fault) called.0.1)

  -- a `next` that does not wait is refused with `OutOfMemory`, or is Busy
  pub next_now_fault : (fault : FlowFault) → NextsNow kind flow s (Err fault) u → (fault ≡ OutOfMemory) ⊎ (fault ≡ Busy)
  next_now_fault OutOfMemory h = given_fault OutOfMemory h.1
  next_now_fault TooLarge h = given_fault TooLarge h.1
  next_now_fault NeedsBuffer h = given_fault NeedsBuffer h.1
  next_now_fault Exhausted h = given_fault Exhausted h.1
  next_now_fault Unsupported h = given_fault Unsupported h.1
  next_now_fault Busy h = inr refl
