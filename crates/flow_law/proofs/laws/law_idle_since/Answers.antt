use Rattle.flow_law.proofs.SharingLemmas.{idle_since_means}
use Rattle.flow_law.proofs.laws.law_idle_since.Goals as goal

pub returns : goal.returns
returns c = idle_since_means
