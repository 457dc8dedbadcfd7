use Rattle.flow_core.specs.SubId.{number_of}
use Rattle.flow_shared.proofs.ValueLemmas.{subscription_after_value}
use Rattle.flow_shared.proofs.state.Flow+StateCore+T+A+A.value_by.Goals as goal

pub invariant_of-subscription : goal.invariant_of-subscription
invariant_of-subscription g c =
    subscription_after_value c.args.self.now.first c.subscription.inside.seat.knows c.value.new.seat.knows (number_of c.subscription.inside.id) _ c.value.ensures.called.1 c.subscription.invariant
