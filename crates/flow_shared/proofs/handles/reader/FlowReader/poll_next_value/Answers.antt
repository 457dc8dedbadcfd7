use Rattle.std.proofs.Common.{sym, subst}
use Rattle.futures.specs.Poll.{OnPending}
use Rattle.futures.specs.Task.{IsArmed}
use Rattle.flow_shared.specs.Polling.{PollsNext}
use Rattle.flow_shared.proofs.NextTries.{nexts_at_once, finds_itself}
use Rattle.flow_shared.proofs.PollRuns.{armed_by, polls_next}
use Rattle.flow_shared.proofs.handles.reader.FlowReader.poll_next_value.Goals as goal

pub returns-clause-polls : goal.returns-clause-polls
returns-clause-polls g c =
    let kind = g.S.FlowCore.kind in
    let new = c.next_by-answer.new.subscription in
    let called = nexts_at_once kind g.S.FlowCore.lawful c.deref.result.now c.self.inside.subscription new c.next_by-answer.result c.next_by-answer.ensures.called in
    let polled = subst (λ p. PollsNext kind c.deref.result.now c.self.inside.subscription p new) (sym c.polled.ensures)
    (polls_next kind g.S.FlowCore.lawful c.deref.result.now c.self.inside.subscription new c.next_by-answer.result called) in
    subst (λ r. PollsNext kind r.flow r.subscription c.polled.result new) c.self.view_is
    (subst (λ f. PollsNext kind f c.self.inside.subscription c.polled.result new) c.deref.ensures polled)

pub returns-clause-armed : goal.returns-clause-armed
returns-clause-armed g c =
    subst (λ p. OnPending p (IsArmed c.next_by-answer.new.waiter)) (sym c.polled.ensures)
    (armed_by c.next_by-answer.result (IsArmed c.next_by-answer.new.waiter)
    (finds_itself g.S.FlowCore.kind g.S.FlowCore.lawful c.deref.result.now c.self.inside.subscription c.next_by-answer.new.subscription (Unit {0}) c.next_by-answer.result c.next_by-answer.ensures.called) c.next_by-answer.ensures.armed)
