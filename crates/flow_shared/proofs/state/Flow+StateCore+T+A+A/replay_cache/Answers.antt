use Rattle.flow_shared.proofs.Refusals.{state_cache_fault}
use Rattle.flow_shared.proofs.state.Flow+StateCore+T+A+A.replay_cache.Goals as goal

pub returns-clause-refused : goal.returns-clause-refused
returns-clause-refused g c = state_cache_fault c.args.self.now _ _ _ c.call.ensures.called
