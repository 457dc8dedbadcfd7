use Rattle.flow_law.specs.declared.fault.FlowFault.TheVariants.{Busy}
use Rattle.flow_word_shared.proofs.Polls.{given_now, busy_now}
use Rattle.flow_word_shared.proofs.handles.reader.WordFlowReader.look_in_poll.Goals as goal

pub returns-in-Ok-clause-polled : goal.returns-in-Ok-clause-polled
returns-in-Ok-clause-polled g c = given_now c.args.self.now.flow.first c.args.self.now.subscription c.try_next.new.self.subscription c.in-Ok.given c.in-Ok.ensures.called

pub returns-in-Err-clause-polled : goal.returns-in-Err-clause-polled
returns-in-Err-clause-polled g c = busy_now c.args.self.now.flow.first c.args.self.now.subscription c.try_next.new.self.subscription Busy c.in-Err.ensures.called
