use Rattle.flow_word_shared.proofs.Chains.{tried_again}
use Rattle.flow_word_shared.proofs.token.WordFlow.emission.Goals as goal

pub loop-preserved-then-is_locked : goal.loop-preserved-then-is_locked
loop-preserved-then-is_locked g c = (tt, tt, tried_again _ _ _ c.loop.invariant.2 c.in-Err.ensures.lost)

pub loop-preserved : goal.loop-preserved
loop-preserved g c = (tt, tt, tried_again _ _ _ c.loop.invariant.2 c.in-Err.ensures.lost)
