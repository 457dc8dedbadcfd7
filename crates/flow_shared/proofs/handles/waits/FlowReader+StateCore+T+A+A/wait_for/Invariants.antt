use Rattle.std.proofs.Common.{◌≡◌, false}
use Rattle.std.specs.Fn.{FnReturnsAt}
use Rattle.flow_shared.specs.WaitingFor.{ComesTo}
use Rattle.flow_shared.proofs.handles.waits.FlowReader+StateCore+T+A+A.wait_for.Given as goal

abbrev pub invariant-loop : goal.invariant-loop
invariant-loop g l = (goal.iterator-loop g).can_next l.iterator' × (goal.iterator-loop g).is_finite l.iterator'
    × (l.self.flow ≡ l.fn.self.flow) × ComesTo l.fn.self.flow (λ value. FnReturnsAt g.F.Fn l.test value false) l.fn.self.subscription l.value l.self.subscription
