use Rattle.flow_law.specs.flow.StateFlow.{state_flow}
use Rattle.flow_sharing.specs.StateFlowHub.{StateSays}
use Rattle.flow_sharing.proofs.HubLemmas.{word-by-seats, word-not-busy}
use Rattle.flow_sharing.proofs.TurnBySeatsLemmas.{turn-by-seats}
use Rattle.flow_sharing.proofs.laws.law_turn_over_word_state.Goals as goal

pub returns : goal.returns
returns g c = λ started now seen s old new turned h. (
  turn-by-seats state_flow StateSays _ (word-by-seats _ g.row.T.Denot) started now seen s old new turned h,
  word-not-busy started now seen s old new turned h,
)
