-- Emissions of a shared flow: from the contract of one call to those of `emit` and `emit_now`.
use Rattle.std.proofs.Common.{◌≡◌, ℕ, List, Result, Ok, Err, refl, sym, subst}
use Rattle.flow_law.specs.declared.fault.FlowFault.{FlowFault}
use Rattle.flow_law.specs.declared.fault.FlowFault.TheVariants.{OutOfMemory, TooLarge, NeedsBuffer, Exhausted, Unsupported, Busy}
use Rattle.flow_law.specs.declared.fault.Refused.{Refused}
use Rattle.flow_law.specs.declared.outcome.Emit.{Emit}
use Rattle.flow_law.specs.declared.outcome.Emit.TheVariants.{Done, Queued}
use Rattle.flow_law.specs.declared.call.SharedCall.TheVariants as call
use Rattle.flow_law.specs.declared.call.SharedReply.TheVariants as reply
use Rattle.flow_law.specs.declared.states.SharedFlowState.{SharedFlowState}
use Rattle.flow_law.specs.history.History.{IsGiven, emission}
use Rattle.flow_law.specs.flow.SharedHistory.{shared_flow}
use Rattle.flow_law.proofs.SharedLawful.{shared_lawful}
use Rattle.flow_law.proofs.TokenLemmas.{given_by, busy_is_no_event}
use Rattle.flow_core.specs.SharedCore.{emit_reply}
use Rattle.flow_gate.specs.Tokens.{GateOrigin}
use Rattle.flow_shared.specs.declared.token.Emitted.{Emitted}
use Rattle.flow_shared.specs.declared.token.Emitted.TheVariants as answers
use Rattle.flow_shared.specs.SharedReplies.{SharedToken, SharedCalls, SharedCallsBy, Emits, EmitsBy, EmitsNow, EmitIsWait, IsGivenIfQueued}

module _ {T : Type 0} (flow : GateOrigin (SharedFlowState T)) (before after : SharedToken T) (v : T) where
  -- an emission that waits was given its number
  pub queued_given : (answer : Result Emit (Refused T)) → SharedCalls flow before (call.Emit v) (emit_reply answer) after → IsGivenIfQueued after.knows answer
  queued_given (Ok Done) called = tt
  queued_given (Ok (Queued e)) called = subst (λ (name : List ℕ). IsGiven shared_flow name (emission e) after.knows.seen) (sym called.1.name)
      (given_by shared_flow shared_lawful flow.first before.knows after.knows (call.Emit v) (emit_reply (Ok (Queued e))) called.1 (record { number = emission e; name = before.knows.name }) refl)
  queued_given (Err refused) called = tt

module _ {T : Type 0} (A : Type 0) (flow : GateOrigin (SharedFlowState T)) (before after : SharedToken T) (v : T) where
  -- a refused emission hands its value back
  pub refused_by : (at_once : Type 0) (w : T) (fault : FlowFault) → SharedCallsBy flow at_once before (call.Emit v) (reply.Refused fault) after → w ≡ v → EmitsBy {A = A} flow at_once before v (answers.Refused after w fault)
  refused_by at_once w OutOfMemory called handed = (handed, called)
  refused_by at_once w TooLarge called handed = (handed, called)
  refused_by at_once w NeedsBuffer called handed = (handed, called)
  refused_by at_once w Exhausted called handed = (handed, called)
  refused_by at_once w Unsupported called handed = (handed, called)
  refused_by at_once w Busy called handed = absurd (busy_is_no_event shared_flow shared_lawful flow.first before.knows after.knows (call.Emit v) called.0.1)

  -- its caller does not wait
  pub refused_at_once : {P : Type 0} (w : T) (fault : FlowFault) → SharedCalls flow before (call.Emit v) (reply.Refused fault) after → EmitIsWait {A = A} (answers.Refused after w fault) → P
  refused_at_once w OutOfMemory called waits = absurd waits
  refused_at_once w TooLarge called waits = absurd waits
  refused_at_once w NeedsBuffer called waits = absurd waits
  refused_at_once w Exhausted called waits = absurd waits
  refused_at_once w Unsupported called waits = absurd waits
  refused_at_once w Busy called waits = absurd (busy_is_no_event shared_flow shared_lawful flow.first before.knows after.knows (call.Emit v) called.1)

module _ {T A : Type 0} (flow : GateOrigin (SharedFlowState T)) (before : SharedToken T) (v : T) where
  -- an `emit` that waits is never Busy
  pub emits_waiting : (answer : Emitted T A) → EmitsBy flow ⊥ before v answer → Emits flow before v answer
  emits_waiting (answers.Done t) by = (by.0, tt)
  emits_waiting (answers.Queued e) by = (by.0, tt)
  emits_waiting (answers.Refused t w OutOfMemory) by = (by.1.0, by.0)
  emits_waiting (answers.Refused t w TooLarge) by = (by.1.0, by.0)
  emits_waiting (answers.Refused t w NeedsBuffer) by = (by.1.0, by.0)
  emits_waiting (answers.Refused t w Exhausted) by = (by.1.0, by.0)
  emits_waiting (answers.Refused t w Unsupported) by = (by.1.0, by.0)
  emits_waiting (answers.Refused t w Busy) by = absurd (by.1.0)

  pub emits_at_once : (answer : Emitted T A) → EmitsBy flow (Unit {0}) before v answer → EmitsNow flow before v answer
  emits_at_once (answers.Done t) by = (by.0, by.1 tt)
  emits_at_once (answers.Queued e) by = (by.0, by.1 tt)
  emits_at_once (answers.Refused t w OutOfMemory) by = (by.0, (by.1.0, by.1.1 tt))
  emits_at_once (answers.Refused t w TooLarge) by = (by.0, (by.1.0, by.1.1 tt))
  emits_at_once (answers.Refused t w NeedsBuffer) by = (by.0, (by.1.0, by.1.1 tt))
  emits_at_once (answers.Refused t w Exhausted) by = (by.0, (by.1.0, by.1.1 tt))
  emits_at_once (answers.Refused t w Unsupported) by = (by.0, (by.1.0, by.1.1 tt))
  emits_at_once (answers.Refused t w Busy) by = (by.0, by.1.1)
