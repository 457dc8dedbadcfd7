use Rattle.std.proofs.Common.{◌≡◌}
use Rattle.flow_law.specs.flow.SharedHistory.{shared_flow}
use Rattle.flow_word.specs.Receiving.{AsksInVain}
use Rattle.flow_word_shared.proofs.handles.reader.WordFlowReader.receive_within.Given as goal

abbrev pub invariant-loop : goal.invariant-loop
invariant-loop g l = (goal.iterator-loop g).can_next l.iterator' × (goal.iterator-loop g).is_finite l.iterator'
    × (l.self.flow ≡ l.fn.self.flow) × AsksInVain shared_flow l.fn.self.flow.first l.fn.self.subscription l.self.subscription
