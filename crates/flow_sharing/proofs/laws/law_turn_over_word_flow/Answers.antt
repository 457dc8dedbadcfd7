use Rattle.flow_law.specs.flow.SharedHistory.{shared_flow}
use Rattle.flow_sharing.specs.SharedFlowHub.{SharedSays}
use Rattle.flow_sharing.proofs.HubLemmas.{shared-by-seats}
use Rattle.flow_sharing.proofs.TurnBySeatsLemmas.{turn-by-seats}
use Rattle.flow_sharing.proofs.laws.law_turn_over_word_flow.Goals as goal

pub returns : goal.returns
returns g c = λ started now seen s old new turned h.
    turn-by-seats shared_flow SharedSays _ (shared-by-seats _ g.row.T.Denot _) started now seen s old new turned h
