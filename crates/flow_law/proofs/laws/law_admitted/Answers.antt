use Rattle.flow_law.proofs.Admitted.{admits}
use Rattle.flow_law.proofs.laws.law_admitted.Goals as goal

pub returns : goal.returns
returns g c = λ config h legal. admits config h legal
