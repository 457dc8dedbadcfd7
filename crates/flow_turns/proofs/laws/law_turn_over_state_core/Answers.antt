use Rattle.flow_turns.proofs.OverCoresLemmas.{turn-over_state_core}
use Rattle.flow_turns.proofs.laws.law_turn_over_state_core.Goals as goal

pub returns : goal.returns
returns g c = turn-over_state_core g.row.T.Denot g.row.A.Denot
