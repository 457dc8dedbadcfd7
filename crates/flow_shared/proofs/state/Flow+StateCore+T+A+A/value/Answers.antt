use Rattle.flow_shared.proofs.Refusals.{value_fault}
use Rattle.flow_shared.proofs.state.Flow+StateCore+T+A+A.value.Goals as goal

pub returns-clause-refused : goal.returns-clause-refused
returns-clause-refused g c = value_fault c.args.self.now _ _ _ c.call.ensures.called
