use Rattle.std.proofs.Common.{◌≡◌, false}
use Rattle.std.specs.Fn.{FnReturnsAt}
use Rattle.flow_word.specs.WaitingFor.{WordComesTo}
use Rattle.flow_word.proofs.handles.reader.WordReader.wait_for_timeout.Given as goal

abbrev pub invariant-loop : goal.invariant-loop
invariant-loop g l = (goal.iterator-loop g).can_next l.iterator' × (goal.iterator-loop g).is_finite l.iterator'
    × (l.self.flow ≡ l.fn.self.flow) × WordComesTo l.fn.self.flow.first (λ value. FnReturnsAt g.F.Fn l.test value false) l.fn.self.subscription l.newest l.self.subscription
