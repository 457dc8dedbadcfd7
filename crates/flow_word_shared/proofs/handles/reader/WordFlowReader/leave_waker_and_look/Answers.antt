use Rattle.std.proofs.Common.{subst, Ok, Option}
use Rattle.flow_law.specs.declared.fault.FlowFault.TheVariants.{Busy}
use Rattle.flow_law.specs.history.Handles.{next_of}
use Rattle.flow_word_shared.specs.Answers.{WordNextsNow}
use Rattle.flow_word_shared.specs.Handles.{WordFlowReaderOf}
use Rattle.flow_word_shared.specs.Receiving.{WordFlowPolls, WordFlowPends}
use Rattle.flow_word_shared.proofs.Polls.{given_now, busy_now, none_now}
use Rattle.flow_word_shared.proofs.handles.reader.WordFlowReader.leave_waker_and_look.Goals as goal

pub returns-in-Ok-clause-polled : goal.returns-in-Ok-clause-polled
returns-in-Ok-clause-polled g c =
    let now = c.leave_waker.new.self in let new = c.try_next.new.self.subscription in
    subst (λ (r : WordFlowReaderOf g.row.T.Denot). WordFlowPolls r.flow.first r.subscription c.in-Ok.given new) c.leave_waker.ensures.same (given_now now.flow.first now.subscription new c.in-Ok.given c.in-Ok.ensures.called)

-- the look came after the waker was left
pub returns-in-Ok-clause-armed : goal.returns-in-Ok-clause-armed
returns-in-Ok-clause-armed g c is =
    let now = c.leave_waker.new.self in let new = c.try_next.new.self in
    c.leave_waker.ensures.armed new (none_now c.args.self.now.flow.first c.args.self.now.subscription new.subscription
    (subst (λ (z : WordFlowReaderOf g.row.T.Denot × Option g.row.T.Denot). WordNextsNow z.0.flow.first z.0.subscription (Ok (next_of z.1)) new.subscription) (λ i. (c.leave_waker.ensures.same i, is i)) c.in-Ok.ensures.called))

pub returns-in-Err-clause-polled : goal.returns-in-Err-clause-polled
returns-in-Err-clause-polled g c =
    let now = c.leave_waker.new.self in let new = c.try_next.new.self.subscription in
    subst (λ (r : WordFlowReaderOf g.row.T.Denot). WordFlowPends r.flow.first r.subscription new) c.leave_waker.ensures.same (busy_now now.flow.first now.subscription new Busy c.in-Err.ensures.called)
