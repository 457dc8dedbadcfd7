use Rattle.std.proofs.Common.{refl, ◌∙◌}
use Rattle.std.specs.Fn.{FnReturnsAt}
use Rattle.flow_law.specs.history.Updates.{none_lost, Accepts, Refuses}
use Rattle.flow_shared.proofs.Rounds.{lost_by, won_by, stopped_by}
use Rattle.flow_shared.proofs.handles.setter.FlowCaller+StateCore+T+A+A.get_and_update.Goals as goal

pub loop-init : goal.loop-init
loop-init g c = (tt, tt, refl, none_lost)

pub returns-in-Err-clause-updates : goal.returns-in-Err-clause-updates
returns-in-Err-clause-updates g c =
    stopped_by c.args.self.now.flow (Accepts (FnReturnsAt g.F.Fn c.args.f)) (Refuses (FnReturnsAt g.F.Fn c.args.f)) c.loop.self c.answered.new.self c.args.self.now.token c.loop.invariant.3 c.loop.invariant.2 c.in-Err.ensures.stopped

pub returns-then-compare_and_set-clause-updates : goal.returns-then-compare_and_set-clause-updates
returns-then-compare_and_set-clause-updates g c =
    (c.in-Ok.round.1, won_by c.args.self.now.flow (Accepts (FnReturnsAt g.F.Fn c.args.f)) c.loop.self c.answered.new.self c.compare_and_set.new.self c.in-Ok.round.0 c.in-Ok.round.1 c.args.self.now.token c.loop.invariant.3 (record { of_flow = c.loop.invariant.2; kept = c.in-Ok.ensures.flow; read = c.in-Ok.ensures.read.0; gives = c.in-Ok.ensures.read.1 }) c.if-compare_and_set.ensures.called)

pub loop-preserved : goal.loop-preserved
loop-preserved g c =
    (tt, tt, c.if-compare_and_set.ensures.flow ∙ (c.in-Ok.ensures.flow ∙ c.loop.invariant.2), lost_by c.args.self.now.flow (Accepts (FnReturnsAt g.F.Fn c.args.f)) c.loop.self c.answered.new.self c.compare_and_set.new.self c.in-Ok.round.0 c.in-Ok.round.1 c.args.self.now.token c.loop.invariant.3 (record { of_flow = c.loop.invariant.2; kept = c.in-Ok.ensures.flow; read = c.in-Ok.ensures.read.0; gives = c.in-Ok.ensures.read.1 }) c.if-compare_and_set.ensures.called)
