use Rattle.flow_law.proofs.TurnAccountLemmas.{turn_account}
use Rattle.flow_law.proofs.laws.law_turn_account.Goals as goal

pub returns : goal.returns
returns g c = turn_account g.row.T.Denot
