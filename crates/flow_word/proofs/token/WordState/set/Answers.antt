use Rattle.std.proofs.Common.{rules, ap}
use Rattle.flow_word.proofs.Keeps.{setting}
use Rattle.flow_word.proofs.token.WordState.set.Goals as goal

pub swap-old-requires : goal.swap-old-requires
swap-old-requires g c = (search rules, search rules, setting _ _ _ _ _ _ _ _ (ap (λ m. m.0) c.seat.invariant) c.pack-word.ensures.packs)
