-- The answers of handles as answers of the flow's own calls: the same answers, with tokens in place of handles.
use Rattle.std.specs.Prelude.{Bool, Result, Ok, Err}
use Rattle.atomic_table.specs.Seated.{TableId}
use Rattle.flow_law.specs.declared.fault.FlowFault.{FlowFault}
use Rattle.flow_law.specs.declared.history.Said.{Said}
use Rattle.flow_law.specs.declared.outcome.Drained.{Drained}
use Rattle.flow_law.specs.declared.outcome.Drained.TheVariants as drained
use Rattle.flow_law.specs.declared.call.SharedCall.{SharedCall}
use Rattle.flow_law.specs.declared.call.SharedReply.{SharedReply}
use Rattle.flow_law.specs.declared.states.SharedFlowState.{SharedFlowState}
use Rattle.flow_law.specs.history.Handles.{CallerOf, ReaderOf}
use Rattle.flow_gate.specs.Tokens.{GateOrigin, GateToken}
use Rattle.flow_shared.specs.Calls.{GateNumbered}
use Rattle.flow_shared.specs.SharedReplies.{SharedToken}
use Rattle.flow_shared.specs.BoundEmissions.{EmissionOf}
use Rattle.flow_shared.specs.declared.token.Emitted.{Emitted}
use Rattle.flow_shared.specs.declared.token.Emitted.TheVariants as emitted
use Rattle.flow_shared.specs.declared.token.Polled.{Polled}
use Rattle.flow_shared.specs.declared.token.Polled.TheVariants as polled
use Rattle.flow_shared.specs.declared.token.PolledNow.{PolledNow}
use Rattle.flow_shared.specs.declared.token.PolledNow.TheVariants as polled_now
use Rattle.flow_shared.specs.declared.handles.bound_emission.EmitAnswer.{EmitAnswer}
use Rattle.flow_shared.specs.declared.handles.bound_emission.EmitAnswer.TheVariants as emit_answer
use Rattle.flow_shared.specs.declared.handles.bound_emission.PollAnswer.{PollAnswer}
use Rattle.flow_shared.specs.declared.handles.bound_emission.PollAnswer.TheVariants as poll_answer
use Rattle.flow_shared.specs.declared.drain.DrainEnd.{DrainEnd}
use Rattle.flow_shared.specs.declared.drain.DrainEnd.TheVariants as drain_end

-- the flow's own answer to a drain through a reader
abbrev pub drained_by : Result DrainEnd FlowFault → Result Drained FlowFault
drained_by (Ok drain_end.Most) = Ok drained.Most
drained_by (Ok drain_end.Empty) = Ok drained.Empty
drained_by (Err fault) = Err fault

module _ {T A : Type 0} where
  -- ---- an emission through an emitter, whose error has this fault

  -- the flow's own answer to an emission
  abbrev pub emitted_by : {E : Type 0} → (E → FlowFault) → EmitAnswer T E A → Emitted T A
  emitted_by fault_of (emit_answer.Done c) = emitted.Done c.token
  emitted_by fault_of (emit_answer.Queued e) = emitted.Queued e.emission
  emitted_by fault_of (emit_answer.Refused c r) = emitted.Refused c.token r.value (fault_of r.error)

  -- the flow of the handle that the answer has
  abbrev pub emitted_flow : {E : Type 0} → EmitAnswer T E A → GateOrigin (SharedFlowState T)
  emitted_flow (emit_answer.Done c) = c.flow
  emitted_flow (emit_answer.Queued e) = e.flow
  emitted_flow (emit_answer.Refused c r) = c.flow

  -- ---- a poll

  -- the flow's own answer to a poll
  abbrev pub own_polled : PollAnswer T A → Polled T A
  own_polled (poll_answer.Done c) = polled.Done c.token
  own_polled (poll_answer.Waiting e) = polled.Waiting e.emission

  -- the flow of the handle that a poll gives back
  abbrev pub polled_flow : PollAnswer T A → GateOrigin (SharedFlowState T)
  polled_flow (poll_answer.Done c) = c.flow
  polled_flow (poll_answer.Waiting e) = e.flow

  -- the flow's own answer to a poll that does not wait
  abbrev pub polled_now_by : Result (PollAnswer T A) (EmissionOf T) → PolledNow T A
  polled_now_by (Ok (poll_answer.Done c)) = polled_now.Done c.token
  polled_now_by (Ok (poll_answer.Waiting e)) = polled_now.Waiting e.emission
  polled_now_by (Err e) = polled_now.Busy e.emission

  -- the flow of the handle that a poll which does not wait gives back
  abbrev pub polled_now_flow : Result (PollAnswer T A) (EmissionOf T) → GateOrigin (SharedFlowState T)
  polled_now_flow (Ok p) = polled_flow p
  polled_now_flow (Err e) = e.flow

-- ---- an unsubscribe

module _ {S E : Type 0} where
  -- the flow's own answer to an unsubscribe
  abbrev pub left_by : Result (CallerOf TableId S E) (ReaderOf TableId S E) → Result (GateToken E) (GateNumbered E)
  left_by (Ok c) = Ok c.token
  left_by (Err r) = Err r.subscription

  -- the flow of the handle that an unsubscribe gives back
  abbrev pub left_flow : Result (CallerOf TableId S E) (ReaderOf TableId S E) → GateOrigin S
  left_flow (Ok c) = c.flow
  left_flow (Err r) = r.flow

-- ---- a cancel

-- a caller of a shared flow
abbrev pub SharedCaller : Type 0 → Type 0
SharedCaller T = CallerOf TableId (SharedFlowState T) (Said (SharedCall T) (SharedReply T))

module _ {T : Type 0} where
  -- the flow's own answer to a cancel
  abbrev pub cancelled_by : Result (SharedCaller T × Bool) (EmissionOf T) → Result (SharedToken T × Bool) (GateNumbered (Said (SharedCall T) (SharedReply T)))
  cancelled_by (Ok ended) = Ok (ended.0.token, ended.1)
  cancelled_by (Err e) = Err e.emission

  -- the flow of the handle that a cancel gives back
  abbrev pub cancelled_flow : Result (SharedCaller T × Bool) (EmissionOf T) → GateOrigin (SharedFlowState T)
  cancelled_flow (Ok ended) = ended.0.flow
  cancelled_flow (Err e) = e.flow
