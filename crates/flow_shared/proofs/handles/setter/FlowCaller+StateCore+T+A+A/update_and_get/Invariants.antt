use Rattle.std.proofs.Common.{◌≡◌}
use Rattle.std.specs.Fn.{FnReturnsAt}
use Rattle.flow_law.specs.history.Updates.{Accepts, LosesRounds}
use Rattle.flow_shared.proofs.handles.setter.FlowCaller+StateCore+T+A+A.update_and_get.Given as goal

abbrev pub invariant-loop : goal.invariant-loop
invariant-loop g l = (goal.iterator-loop g).can_next l.iterator' × (goal.iterator-loop g).is_finite l.iterator'
    × (l.self.flow ≡ l.fn.self.flow) × LosesRounds l.fn.self.flow.first (Accepts (FnReturnsAt g.F.Fn l.f)) l.fn.self.token l.self.token
