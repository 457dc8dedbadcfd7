use Rattle.std.proofs.Common.{Some, ◌∙◌, subst}
use Rattle.flow_shared.specs.Polling.{GivesNext}
use Rattle.flow_shared.proofs.PollRuns.{changed_first, changed_later}
use Rattle.flow_shared.proofs.handles.values.ReceiveFutureFuture.poll.Goals as goal

pub returns-in-Ready-clause-value : goal.returns-in-Ready-clause-value
returns-in-Ready-clause-value g c =
    let new = c.poll_next_value.new.self in
    subst (λ f. GivesNext g.S.FlowCore.kind f (new, c.in-Ready.given)) (c.in-Some.ensures.value ∙ c.self.view_is)
    (changed_first g.S.FlowCore.kind c.in-Some.reader new c.in-Ready.given c.in-Ready.ensures.flow c.in-Ready.ensures.polls)

pub returns-in-Pending-clause-same : goal.returns-in-Pending-clause-same
returns-in-Pending-clause-same g c given gives =
    let new = c.poll_next_value.new.self in
    subst (λ f. GivesNext g.S.FlowCore.kind f given) (c.in-Some.ensures.value ∙ c.self.view_is)
    (changed_later g.S.FlowCore.kind c.in-Some.reader new c.in-Pending.ensures.flow c.in-Pending.ensures.polls given gives)
