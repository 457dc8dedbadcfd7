use Rattle.std.proofs.Common.{sym, subst}
use Rattle.flow_law.specs.history.History.{IsSubscription}
use Rattle.flow_law.specs.flow.SharedHistory.{shared_flow}
use Rattle.flow_core.specs.SubId.{number_of}
use Rattle.flow_law.proofs.SeenLemmas.{shared_has}
use Rattle.flow_shared.proofs.laws.Flow+SharedCore+T+A+A.seen_by_subscription.Goals as goal

pub returns-clause-subscribed : goal.returns-clause-subscribed
returns-clause-subscribed g c =
    shared_has _ c.seen.new.seat.knows _ c.seen.ensures.laws.history (subst (λ t. IsSubscription shared_flow t.knows (number_of c.subscription.inside.id)) (sym c.seen.ensures.unchanged) c.subscription.invariant)
