use Rattle.flow_word_shared.proofs.Chains.{tried_again}
use Rattle.flow_word_shared.proofs.token.WordFlow.reset_replay_cache.Goals as goal

pub loop-preserved : goal.loop-preserved
loop-preserved g c = (tt, tt, tried_again _ _ _ c.loop.invariant.2 (c.try_reset.ensures.lost c.if-try_reset.false))
