use Rattle.flow_operators.proofs.AskLemmas.{asks-left}
use Rattle.flow_operators.proofs.laws.law_asks_left.Goals as goal

pub returns : goal.returns
returns g c = asks-left
