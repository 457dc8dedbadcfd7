use Rattle.std.proofs.Common.{rules, ap}
use Rattle.flow_word.proofs.Subscribing.{leaving}
use Rattle.flow_word.proofs.token.WordState.unsubscribe.Goals as goal

pub fetch_sub-requires : goal.fetch_sub-requires
fetch_sub-requires g c = (search rules, search rules, leaving _ _ _ _ _ _ _ _ (ap (λ m. m.0) c.subscription.invariant.0) c.subscription.invariant.1 c.subscription.invariant.2)
