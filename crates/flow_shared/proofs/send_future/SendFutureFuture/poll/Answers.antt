use Rattle.std.proofs.Common.{Some, sym, subst, ◌∙◌}
use Rattle.futures.specs.declared.task.Poll.TheVariants.{Ready, Pending}
use Rattle.flow_shared.specs.EmitFutures.{EmitPolls}
use Rattle.flow_shared.specs.SendFutures.{GivesSend, SendsOnce}
use Rattle.flow_shared.proofs.SendRuns.{same_emission, sends_one, sends_later}
use Rattle.flow_shared.proofs.send_future.SendFutureFuture.poll.Goals as goal

pub returns-in-Ready-clause-one : goal.returns-in-Ready-clause-one
returns-in-Ready-clause-one g c =
    let same = same_emission c.at-emission.result c.in-Some.sending c.deref.result.now c.into_parts.result.1 c.at-emission.ensures (c.deref.ensures ∙ c.into_parts.ensures.flow) c.into_parts.ensures.stage in
    subst (λ f. SendsOnce {A = g.row.A.Denot} f (Ready c.answer.result) c.match-stage.self) (c.in-Some.ensures.value ∙ c.self.view_is)
    (sends_one c.at-emission.result c.in-Some.sending c.answer.result c.in-Ready.sent c.match-stage.self same c.answer.ensures.sent c.in-Ready.ensures.one)

pub returns-in-Pending-clause-same : goal.returns-in-Pending-clause-same
returns-in-Pending-clause-same g c given gives =
    let same = same_emission c.at-emission.result c.in-Some.sending c.deref.result.now c.into_parts.result.1 c.at-emission.ensures (c.deref.ensures ∙ c.into_parts.ensures.flow) c.into_parts.ensures.stage in
    let polls = subst (λ z. EmitPolls c.at-emission.result.flow c.at-emission.result.stage Pending z) (sym c.into_stage-stage.ensures.stage) c.in-Pending.ensures.polls in
    subst (λ f. GivesSend {A = g.row.A.Denot} f given) (c.in-Some.ensures.value ∙ c.self.view_is)
    (sends_later c.at-emission.result c.in-Some.sending c.into_parts.result.0.value c.into_stage-stage.result same c.into_parts.ensures.flow polls given gives)
