use Rattle.std.proofs.Common.{sym, subst}
use Rattle.flow_law.specs.history.History.{IsSubscription}
use Rattle.flow_core.specs.SubId.{number_of}
use Rattle.flow_law.proofs.TokenLemmas.{subscription_met}
use Rattle.flow_shared.proofs.flow.Flow.meet_subscription.Goals as goal

pub invariant_of-subscription : goal.invariant_of-subscription
invariant_of-subscription g c =
    let n = number_of c.subscription.inside.id in
    let m = c.meet.ensures in
    subst (λ t. IsSubscription g.S.FlowCore.kind t.knows n) (sym m.sees_one) (subscription_met g.S.FlowCore.kind g.S.FlowCore.lawful c.args.self.now.first c.subscription.inside.seat.knows n m.history m.is_history m.fits_one c.subscription.invariant)
