use Rattle.flow_law.proofs.UpdateCountLemmas.{all_updated}
use Rattle.flow_law.proofs.laws.law_updated.Goals as goal

pub returns : goal.returns
returns g c = all_updated
