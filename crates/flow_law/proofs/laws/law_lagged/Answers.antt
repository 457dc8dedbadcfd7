use Rattle.flow_law.proofs.LaggedReads.{lags}
use Rattle.flow_law.proofs.laws.law_lagged.Goals as goal

pub returns : goal.returns
returns g c = λ config h legal. lags config h legal
