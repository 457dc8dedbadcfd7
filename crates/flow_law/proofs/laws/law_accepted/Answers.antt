use Rattle.flow_law.proofs.AcceptedLemmas.{accepts}
use Rattle.flow_law.proofs.laws.law_accepted.Goals as goal

pub returns : goal.returns
returns g c = accepts
