-- An emission that waits, with its flow.
use Rattle.flow_law.specs.declared.history.Said.{Said}
use Rattle.flow_law.specs.declared.call.SharedCall.{SharedCall}
use Rattle.flow_law.specs.declared.call.SharedReply.{SharedReply}
use Rattle.flow_law.specs.declared.states.SharedFlowState.{SharedFlowState}
use Rattle.flow_gate.specs.Tokens.{GateOrigin}
use Rattle.flow_shared.specs.Calls.{GateNumbered}

-- an emission that waits, and its flow
pub record EmissionOf (T : Type 0) : Type 0 where
  pub flow : GateOrigin (SharedFlowState T)
  pub emission : GateNumbered (Said (SharedCall T) (SharedReply T))

-- the emission of this flow
abbrev pub queued_by : {T : Type 0} → GateOrigin (SharedFlowState T) → GateNumbered (Said (SharedCall T) (SharedReply T)) → EmissionOf T
queued_by flow emission = record { flow = flow; emission = emission }
