use Rattle.std.proofs.Common.{◌∙◌}
use Rattle.flow_word_shared.proofs.Chains.{tried_overrun}
use Rattle.flow_word_shared.proofs.token.WordFlow.next.Goals as goal

pub loop-init : goal.loop-init
loop-init g c = let late = c.try_next.ensures.late c.in-None.is in (tt, tt, c.try_next.ensures.number, (late.0, (1, late.1)))

pub loop-preserved : goal.loop-preserved
loop-preserved g c = (tt, tt, c.try_ahead.ensures.number ∙ c.loop.invariant.2, tried_overrun _ _ _ c.loop.invariant.3 (c.try_ahead.ensures.late c.in-None-try_ahead.is))
