use Rattle.std.proofs.Common.{◌≡◌, ◌∙◌, ◌||◌, ◌==◌, sym, ap}
use Rattle.std.specs.List.{list_any}
use Rattle.flow_law.specs.declared.call.SharedReply.TheVariants as reply
use Rattle.flow_law.specs.flow.SharedFlow.{is_queued, is_offered_as}
use Rattle.flow_law.proofs.HoldingLemmas.{covers}
use Rattle.flow_core.proofs.shared.SharedCore.poll.Goals as goal

pub returns-then-contains : goal.returns-then-contains
returns-then-contains g c = record {
  documented = (
    λ s stands.
        let queued : is_queued c.args.number s ≡ c.contains.result = ap (list_any (λ q. q.number == c.args.number)) (sym (ap (λ core. core.queue) c.self.view_is ∙ stands.queue)) ∙ sym c.contains.ensures in
        (sym (ap (λ t. reply.Tested (t || is_offered_as c.args.number s)) (queued ∙ c.if-contains.true) ∙ ap reply.Tested (sym c.if-contains.true)), stands),
    tt,
  );
}

pub returns-else-contains : goal.returns-else-contains
returns-else-contains g c = record {
  documented = (
    λ s stands.
        let queued : is_queued c.args.number s ≡ c.contains.result = ap (list_any (λ q. q.number == c.args.number)) (sym (ap (λ core. core.queue) c.self.view_is ∙ stands.queue)) ∙ sym c.contains.ensures in
        (ap reply.Tested (c.is_offered_as.ensures.shown s (covers c.args.self.now s stands)) ∙ sym (ap (λ t. reply.Tested (t || is_offered_as c.args.number s)) (queued ∙ c.if-contains.false)), stands),
    tt,
  );
}
