use Rattle.flow_law.proofs.ClosedLemmas.{all_done}
use Rattle.flow_law.proofs.laws.law_closed.Goals as goal

pub returns : goal.returns
returns g c = all_done
