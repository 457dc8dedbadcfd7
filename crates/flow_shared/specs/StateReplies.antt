-- What the calls of a state flow for several threads return. `flow` is the flow: which one, and the state that it began with.
use Rattle.std.specs.Prelude.{◌≡◌, Result, Ok, Err}
use Rattle.flow_law.specs.declared.fault.FlowFault.TheVariants.{Busy}
use Rattle.flow_law.specs.declared.fault.Refused.{Refused}
use Rattle.flow_law.specs.declared.history.Said.{Said}
use Rattle.flow_law.specs.declared.call.StateCall.{StateCall}
use Rattle.flow_law.specs.declared.call.StateCall.TheVariants as call
use Rattle.flow_law.specs.declared.call.StateReply.{StateReply}
use Rattle.flow_law.specs.declared.call.StateReply.TheVariants as reply
use Rattle.flow_law.specs.declared.states.StateFlowState.{StateFlowState}
use Rattle.flow_law.specs.flow.StateFlow.{state_flow}
use Rattle.flow_law.specs.history.Tokens.{IsBusy}
use Rattle.flow_gate.specs.Tokens.{GateToken, GateOrigin}
use Rattle.flow_shared.specs.Calls as flows

-- a token of a state flow
abbrev pub StateToken : Type 0 → Type 0
StateToken T = GateToken (Said (StateCall T) (StateReply T))

module _ {T : Type 0} (flow : GateOrigin (StateFlowState T)) where
  -- the call adds one event, with this reply, to what the token has seen
  abbrev pub StateCalls : StateToken T → StateCall T → StateReply T → StateToken T → Type 0
  StateCalls = flows.Calls state_flow flow

  -- a `set` that does not wait: if it is Busy, it returns the value
  abbrev pub SetsNow : StateToken T → T → Result (Unit {0}) (Refused T) → StateToken T → Type 0
  SetsNow before value (Ok none) after = flows.CallsAtOnce state_flow flow before (call.Set value) reply.Done after
  SetsNow before value (Err refused) after = (refused.fault ≡ Busy) × (refused.value ≡ value) × IsBusy before after
