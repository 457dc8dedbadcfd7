use Rattle.flow_law.specs.flow.SharedHistory.{shared_flow}
use Rattle.flow_word.proofs.Waits.{found_now}
use Rattle.flow_word_shared.proofs.handles.reader.WordFlowReader.look.Goals as goal

pub returns-clause-received : goal.returns-clause-received
returns-clause-received g c =
    found_now shared_flow c.args.self.now.flow.first c.args.self.now.subscription c.next.new.self.subscription c.next.result c.next.ensures.called c.next.ensures.number
