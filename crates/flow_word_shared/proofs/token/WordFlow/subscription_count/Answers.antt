use Rattle.std.proofs.Common.{rules, ap}
use Rattle.flow_word_shared.proofs.LeaveSteps.{counting_live}
use Rattle.flow_word_shared.proofs.token.WordFlow.subscription_count.Goals as goal

pub load-requires : goal.load-requires
load-requires g c = (search rules, search rules, counting_live _ _ _ _ _ _ _ (ap (λ m. m.0) c.seat.invariant.0.0) c.seat.invariant.0.1)
