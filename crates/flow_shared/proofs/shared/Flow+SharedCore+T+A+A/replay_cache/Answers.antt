use Rattle.flow_shared.proofs.Refusals.{cache_fault}
use Rattle.flow_shared.proofs.shared.Flow+SharedCore+T+A+A.replay_cache.Goals as goal

pub returns-clause-refused : goal.returns-clause-refused
returns-clause-refused g c = cache_fault c.args.self.now _ _ _ c.call.ensures.called
