use Rattle.std.proofs.Common.{true, Err, refl, sym, subst}
use Rattle.flow_law.specs.history.History.{IsSubscription}
use Rattle.flow_law.specs.history.Tokens.{numbered_token}
use Rattle.flow_core.specs.SubId.{number_of}
use Rattle.flow_shared.specs.Calls.{CallsAtOnce, UnsubscribesNow}
use Rattle.flow_law.proofs.TokenLemmas.{was_there}
use Rattle.flow_shared.proofs.flow.Flow.unsubscribe_now.Goals as goal

pub invariant_of-result : goal.invariant_of-result
invariant_of-result g c = subst (λ t. IsSubscription g.S.FlowCore.kind t.knows (number_of c.subscription.inside.id)) (sym c.in-Err.ensures.busy.1) c.subscription.invariant

pub returns-in-Ok : goal.returns-in-Ok
returns-in-Ok g c =
    let kind = g.S.FlowCore.kind in
    let n = number_of c.subscription.inside.id in
    let own = c.subscription.inside.seat in
    let after = c.call_by.new.seat in
    let yes_it_was = was_there kind g.S.FlowCore.lawful c.args.self.now.first own.knows after.knows n c.in-Ok._was_there c.in-Ok.ensures.called.1 c.subscription.invariant in
    subst (λ z. CallsAtOnce kind c.args.self.now z.token (kind.unsubscribe z.number) (kind.tested true) after) c.subscription.view_is
    (subst (λ a. CallsAtOnce kind c.args.self.now own (kind.unsubscribe n) (kind.tested a) after) yes_it_was (c.in-Ok.ensures.called, c.in-Ok.ensures.at_once tt))

pub returns-in-Err : goal.returns-in-Err
returns-in-Err g c =
    let left = numbered_token c.call_by.new.seat (number_of c.subscription.inside.id) in
    subst (λ z. UnsubscribesNow g.S.FlowCore.kind c.args.self.now z (Err left)) c.subscription.view_is (refl, c.in-Err.ensures.busy.1)
