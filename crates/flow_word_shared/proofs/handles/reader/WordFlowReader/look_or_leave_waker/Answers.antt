use Rattle.std.proofs.Common.{subst}
use Rattle.flow_word_shared.specs.Receiving.{WordFlowPolls}
use Rattle.flow_word_shared.proofs.Polls.{pends_polls}
use Rattle.flow_word_shared.proofs.handles.reader.WordFlowReader.look_or_leave_waker.Goals as goal

pub returns-clause-polled : goal.returns-clause-polled
returns-clause-polled g c =
    let now = c.look_in_poll.new.self.subscription in let new = c.leave_waker_and_look.new.self.subscription in
    pends_polls c.args.self.now.flow.first c.args.self.now.subscription now new c.leave_waker_and_look.result c.in-None.ensures.polled
    (subst (λ f. WordFlowPolls f.first now c.leave_waker_and_look.result new) c.in-None.ensures.flow c.leave_waker_and_look.ensures.polled)
