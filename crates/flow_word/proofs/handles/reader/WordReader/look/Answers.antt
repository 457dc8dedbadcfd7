use Rattle.flow_law.specs.flow.StateFlow.{state_flow}
use Rattle.flow_word.proofs.Waits.{found_now}
use Rattle.flow_word.proofs.handles.reader.WordReader.look.Goals as goal

pub returns-clause-received : goal.returns-clause-received
returns-clause-received g c =
    found_now state_flow c.args.self.now.flow.first c.args.self.now.subscription c.next.new.self.subscription c.next.result c.next.ensures.called c.next.ensures.number
