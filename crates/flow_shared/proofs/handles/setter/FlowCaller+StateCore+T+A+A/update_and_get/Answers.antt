use Rattle.std.proofs.Common.{inr, refl, sym, subst, ◌∙◌}
use Rattle.std.specs.Fn.{FnReturnsAt}
use Rattle.flow_law.specs.history.Updates.{none_lost, Accepts, RefusesOrKeepsNone, Updates}
use Rattle.flow_shared.proofs.Rounds.{lost_by, won_by, stopped_by, refused_or_kept_none}
use Rattle.flow_shared.proofs.handles.setter.FlowCaller+StateCore+T+A+A.update_and_get.Goals as goal

pub loop-init : goal.loop-init
loop-init g c = (tt, tt, refl, none_lost)

pub returns-in-Err-clause-updates : goal.returns-in-Err-clause-updates
returns-in-Err-clause-updates g c =
    let gives = FnReturnsAt g.F.Fn c.args.f in
    stopped_by c.args.self.now.flow (Accepts gives) (RefusesOrKeepsNone gives) c.loop.self c.answered.new.self c.args.self.now.token c.loop.invariant.3 c.loop.invariant.2
    (refused_or_kept_none c.loop.self.flow.first gives c.loop.self.token c.answered.new.self.token c.in-Err.ensures.stopped)

pub returns-in_default-clause-updates : goal.returns-in_default-clause-updates
returns-in_default-clause-updates g c =
    let gives = FnReturnsAt g.F.Fn c.args.f in
    stopped_by c.args.self.now.flow (Accepts gives) (RefusesOrKeepsNone gives) c.loop.self c.answered.new.self c.args.self.now.token c.loop.invariant.3 c.loop.invariant.2
    (inr (c.in-Ok.round.0, c.in-Ok.ensures.read.0, inr (c.in-Ok.round.1, c.in-Ok.ensures.read.1)))

pub returns-then-compare_and_set-clause-updates : goal.returns-then-compare_and_set-clause-updates
returns-then-compare_and_set-clause-updates g c =
    let first = c.args.self.now.flow.first in let gives = Accepts (FnReturnsAt g.F.Fn c.args.f) in let before = c.args.self.now.token in (
      c.in-Ok.round.0,
      subst (λ v. Updates first gives before c.in-Ok.round.0 v c.compare_and_set.new.self.token) (sym c.in-Ok-try_copy.ensures.copy)
          (won_by c.args.self.now.flow gives c.loop.self c.answered.new.self c.compare_and_set.new.self c.in-Ok.round.0 c.in-Ok.round.1 before c.loop.invariant.3 (record { of_flow = c.loop.invariant.2; kept = c.in-Ok.ensures.flow; read = c.in-Ok.ensures.read.0; gives = c.in-Ok.ensures.read.1 }) c.if-compare_and_set.ensures.called),
    )

pub loop-preserved : goal.loop-preserved
loop-preserved g c =
    (tt, tt, c.if-compare_and_set.ensures.flow ∙ (c.in-Ok.ensures.flow ∙ c.loop.invariant.2), lost_by c.args.self.now.flow (Accepts (FnReturnsAt g.F.Fn c.args.f)) c.loop.self c.answered.new.self c.compare_and_set.new.self c.in-Ok.round.0 c.in-Ok.round.1 c.args.self.now.token c.loop.invariant.3 (record { of_flow = c.loop.invariant.2; kept = c.in-Ok.ensures.flow; read = c.in-Ok.ensures.read.0; gives = c.in-Ok.ensures.read.1 }) c.if-compare_and_set.ensures.called)
