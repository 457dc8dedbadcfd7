use Rattle.std.proofs.Common.{rules, ap}
use Rattle.flow_word.proofs.Keeps.{reading}
use Rattle.flow_word.proofs.token.WordState.word.Goals as goal

pub load-requires : goal.load-requires
load-requires g c = (search rules, search rules, reading _ _ _ _ _ _ _ (ap (λ m. m.0) c.seat.invariant))
