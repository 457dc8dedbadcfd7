-- From what a contract says of a seat to what the table has of it.
use Rattle.std.proofs.Common.{◌≡◌, false, [], ◌∷◌, Option, None, ap, ◌∙◌}
use Rattle.atomic_table.specs.declared.shared.Seat.{Seat as TableSeat}
use Rattle.flow_gate.specs.declared.view.SeatView.{SeatView}
use Rattle.flow_gate.specs.Seats.{seat_with, seat_state, IsIdleOrInside}
use Rattle.flow_gate.specs.Tokens.{SeatState, IsIdle}
use Rattle.flow_gate.specs.View.{seat_view}

-- the seat s of the table, which contracts see as this one
module _ {S E : Type 0} (s : TableSeat S (SeatView E)) (seat : SeatState S E) (orderly : IsIdleOrInside s) (view_is : seat_state s ≡ seat) where
  pub me_of : (held : Option S) → seat.held ≡ held → s.me ≡ seat_with seat.token.knows held
  me_of held is = orderly ∙ (ap (λ (z : SeatState S E). seat_with z.token.knows z.held) view_is ∙ ap (seat_with seat.token.knows) is)

  pub idle_view : IsIdle seat → s.me.0 ≡ seat_view (seat.token.knows ∷ []) false
  idle_view idle = ap (λ m. m.0) (me_of None idle)
