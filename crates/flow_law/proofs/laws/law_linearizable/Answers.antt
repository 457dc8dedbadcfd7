use Rattle.flow_law.specs.flow.SharedHistory.{shared_flow}
use Rattle.flow_law.specs.flow.StateFlow.{state_flow}
use Rattle.flow_law.proofs.RealTimeLemmas.{linearizes}
use Rattle.flow_law.proofs.laws.law_linearizable.Goals as goal

pub returns : goal.returns
returns g c = (linearizes shared_flow, linearizes state_flow)
