use Rattle.std.proofs.Common.{◌∙◌, arith}
use Rattle.flow_shared.proofs.Tries.{same_flow, lost_one, cancels_same, cancels_busy}
use Rattle.flow_shared.proofs.dropping.Flow+SharedCore+T+A+A.cancel_within.Goals as goal

pub loop-init : goal.loop-init
loop-init g c = record { flow = c.requires; lost = omega arith; cancels = cancels_same c.args.self.now c.args.emission }

pub returns-in-Ok-clause-ended : goal.returns-in-Ok-clause-ended
returns-in-Ok-clause-ended g c = c.loop.invariant.cancels c.in-Ok.ended c.in-Ok.ensures.0

pub loop-preserved : goal.loop-preserved
loop-preserved g c =
    let now = c.loop.emission in let back = c.in-Err.back in record {
      flow = same_flow now.token back.token c.in-Err.ensures.1 ∙ c.loop.invariant.flow;
      lost = omega (arith, c.loop.invariant.lost, lost_one now.token back.token c.in-Err.ensures.1);
      cancels = cancels_busy c.args.self.now c.args.emission now back c.loop.invariant.cancels c.in-Err.ensures.0 c.in-Err.ensures.1;
    }

pub returns-clause-tried : goal.returns-clause-tried
returns-clause-tried g c = omega (arith, c.loop.invariant.lost, c.loop-test.false, c.loop.auto.counter-end)
