use Rattle.std.proofs.Common.{◌≡◌}
use Rattle.flow_shared.proofs.Waits.{LeadsOn}
use Rattle.flow_shared.proofs.handles.reader.FlowReader.await_next_within.Given as goal

abbrev pub invariant-loop : goal.invariant-loop
invariant-loop g l = (goal.iterator-loop g).can_next l.iterator' × (goal.iterator-loop g).is_finite l.iterator'
    × (l.self.flow ≡ l.fn.self.flow) × LeadsOn g.S.FlowCore.kind l.fn.self.flow l.fn.self.subscription l.self.subscription
