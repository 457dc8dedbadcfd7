use Rattle.std.proofs.Common.{rules, ap}
use Rattle.flow_word.proofs.Keeps.{exchanging}
use Rattle.flow_word.proofs.token.WordState.exchange.Goals as goal

pub compare_exchange-found-requires : goal.compare_exchange-found-requires
compare_exchange-found-requires g c =
    (search rules, search rules, exchanging _ _ _ _ g.met.T.Packed.one_pack _ _ _ _ _ (ap (λ m. m.0) c.seat.invariant) c.requires.packs.0 c.requires.packs.1)
