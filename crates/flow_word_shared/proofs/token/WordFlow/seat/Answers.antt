use Rattle.std.proofs.Common.{rules, ap}
use Rattle.flow_word_shared.proofs.SeatSteps.{making}
use Rattle.flow_word_shared.proofs.token.WordFlow.seat.Goals as goal

pub split_seat-requires : goal.split_seat-requires
split_seat-requires g c = (search rules, search rules, making _ _ _ _ _ _ (ap (λ m. m.0) c.seat.invariant.0.0) c.seat.invariant.0.1)
