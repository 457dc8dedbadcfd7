-- The state that a seat lends to the caller inside.
use denote.RattleType.{RattleType}
use Rattle.std.specs.Borrow.{Lends, MutBor, Fml}
use Rattle.flow_law.specs.declared.guarded.Guarded.{Ghosts}
use Rattle.flow_gate.specs.Tokens.{SeatState, seat_holding}
use Rattle.flow_gate.specs.contracts.seat.Seat.{the_row}

-- when the borrow r ends, the seat holds the last state written through r
abbrev pub LendsState : (S E : RattleType) → Ghosts S.Denot E.Denot
    → MutBor (SeatState S.Denot E.Denot) → MutBor S.Denot → Fml
LendsState S E g seat r = Lends (the_row S E g) S seat r (seat_holding seat.now.token)
