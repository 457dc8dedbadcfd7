use Rattle.flow_law.specs.flow.StateFlow.{state_flow}
use Rattle.flow_sharing.specs.StateFlowHub.{StateSays}
use Rattle.flow_sharing.proofs.HubLemmas.{state-by-seats}
use Rattle.flow_sharing.proofs.TurnBySeatsLemmas.{turn-by-seats}
use Rattle.flow_sharing.proofs.laws.law_turn_over_state_flow.Goals as goal

pub returns : goal.returns
returns g c = λ started now seen s old new turned h.
    turn-by-seats state_flow StateSays _ (state-by-seats _ g.row.T.Denot) started now seen s old new turned h
