use Rattle.std.proofs.Common.{◌∙◌, arith}
use Rattle.flow_shared.proofs.Tries.{same_flow, lost_one, leaves_same, leaves_busy}
use Rattle.flow_shared.proofs.flow.Flow.unsubscribe_within.Goals as goal

pub loop-init : goal.loop-init
loop-init g c = record { flow = c.requires; lost = omega arith; leaves = leaves_same g.S.FlowCore.kind c.args.self.now c.args.subscription }

pub returns-in-Ok-clause-ended : goal.returns-in-Ok-clause-ended
returns-in-Ok-clause-ended g c = c.loop.invariant.leaves c.in-Ok.seat c.in-Ok.ensures.0

pub loop-preserved : goal.loop-preserved
loop-preserved g c =
    let now = c.loop.subscription in let back = c.in-Err.back in record {
      flow = same_flow now.token back.token c.in-Err.ensures.1 ∙ c.loop.invariant.flow;
      lost = omega (arith, c.loop.invariant.lost, lost_one now.token back.token c.in-Err.ensures.1);
      leaves = leaves_busy g.S.FlowCore.kind c.args.self.now c.args.subscription now back c.loop.invariant.leaves c.in-Err.ensures.0 c.in-Err.ensures.1;
    }

pub returns-clause-tried : goal.returns-clause-tried
returns-clause-tried g c = omega (arith, c.loop.invariant.lost, c.loop-test.false, c.loop.auto.counter-end)
