use Rattle.std.proofs.Common.{rules, ap}
use Rattle.flow_word.proofs.Keeps.{counting_all}
use Rattle.flow_word.proofs.token.WordState.counts.Goals as goal

pub load-word-requires : goal.load-word-requires
load-word-requires g c = (search rules, search rules, counting_all _ _ _ _ _ _ _ (ap (λ m. m.0) c.seat.invariant))
