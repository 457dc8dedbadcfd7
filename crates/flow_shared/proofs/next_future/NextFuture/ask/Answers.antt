use Rattle.std.proofs.Common.{Some, ap, sym, ◌∙◌, subst}
use Rattle.futures.specs.declared.task.Poll.TheVariants.{Ready}
use Rattle.flow_law.specs.flow.SharedHistory.{shared_flow}
use Rattle.flow_law.proofs.SharedLawful.{shared_lawful}
use Rattle.flow_shared.specs.Calls.{NextsNow}
use Rattle.flow_shared.specs.NextFutures.{NextPolls}
use Rattle.flow_shared.proofs.NextRuns.{PollsBy, polls_by, nothing_given}
use Rattle.flow_shared.proofs.NextTries.{nexts_at_once, finds_itself}
use Rattle.flow_shared.proofs.next_future.NextFuture.ask.Goals as goal

pub returns-in-Some-clause-polls : goal.returns-in-Some-clause-polls
returns-in-Some-clause-polls g c =
    let new = c.next_by-answer.new.subscription in
    let now = nexts_at_once shared_flow shared_lawful c.self.inside.flow.now c.args.subscription new c.next_by-answer.result c.next_by-answer.ensures.called in
    let called = subst (λ flow. NextsNow shared_flow flow c.args.subscription c.next_by-answer.result new) (ap (λ f. f.flow) c.self.view_is) now in
    let polled = subst (λ given. PollsBy c.args.self.now.flow given c.args.subscription new) (sym c.given_by.ensures ∙ c.in-Some.is)
    (polls_by c.args.self.now.flow c.next_by-answer.result c.args.subscription new called) in
    subst (λ after. NextPolls c.args.self.now.flow (Some c.args.subscription) (Ready (new, c.in-Some.given)) after) (sym c.requires.0) polled

pub returns-in-None-clause-polls : goal.returns-in-None-clause-polls
returns-in-None-clause-polls g c =
    let new = c.next_by-answer.new.subscription in
    let now = nexts_at_once shared_flow shared_lawful c.self.inside.flow.now c.args.subscription new c.next_by-answer.result c.next_by-answer.ensures.called in
    let called = subst (λ flow. NextsNow shared_flow flow c.args.subscription c.next_by-answer.result new) (ap (λ f. f.flow) c.self.view_is) now in
    subst (λ given. PollsBy c.args.self.now.flow given c.args.subscription new) (sym c.given_by.ensures ∙ c.in-None.is)
    (polls_by c.args.self.now.flow c.next_by-answer.result c.args.subscription new called)

pub returns-in-None-clause-armed : goal.returns-in-None-clause-armed
returns-in-None-clause-armed g c =
    c.next_by-answer.ensures.armed (nothing_given c.next_by-answer.result
    (finds_itself shared_flow shared_lawful c.self.inside.flow.now c.args.subscription c.next_by-answer.new.subscription (Unit {0}) c.next_by-answer.result c.next_by-answer.ensures.called)
    (sym c.given_by.ensures ∙ c.in-None.is))
