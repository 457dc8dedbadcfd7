use Rattle.std.proofs.Common.{◌≡◌}
use Rattle.flow_law.specs.flow.StateFlow.{state_flow}
use Rattle.flow_word.specs.Receiving.{AsksInVain}
use Rattle.flow_word.proofs.handles.reader.WordReader.changed.Given as goal

abbrev pub invariant-loop : goal.invariant-loop
invariant-loop g l = (goal.iterator-loop g).can_next l.iterator' × (goal.iterator-loop g).is_finite l.iterator'
    × (l.self.flow ≡ l.fn.self.flow) × AsksInVain state_flow l.fn.self.flow.first l.fn.self.subscription l.self.subscription
