-- How the table has a seat: one token and, while its caller is inside, the slot with the state.
use Rattle.std.specs.Prelude.{◌≡◌, ℕ, true, false, List, [], ◌∷◌, Option, Some, None}
use Rattle.atomic_table.specs.Table.{Me}
use Rattle.atomic_table.specs.declared.shared.Seat.{Seat as TableSeat}
use Rattle.flow_law.specs.declared.history.Knowledge.{Knowledge}
use Rattle.flow_law.specs.history.Growth.{first_knowledge}
use Rattle.flow_law.specs.history.Tokens.{token}
use Rattle.flow_gate.specs.declared.view.SeatView.{SeatView}
use Rattle.flow_gate.specs.Tokens.{SeatState}
use Rattle.flow_gate.specs.View.{seat_view}

-- what the one token of a view knows
abbrev pub only_known : {E : Type 0} → List (Knowledge E) → Knowledge E
only_known [] = first_knowledge
only_known (k ∷ ks) = k

-- the value of the slot that was taken last
abbrev pub last_taken : {S : Type 0} → List (ℕ × S) → Option S
last_taken [] = None
last_taken (x ∷ xs) = Some x.1

module _ {S E : Type 0} where
  -- what the table has of a seat whose one token knows this, and which holds the state or nothing
  abbrev pub seat_with : Knowledge E → Option S → Me S (SeatView E)
  seat_with k None = (seat_view (k ∷ []) false, [])
  seat_with k (Some state) = (seat_view (k ∷ []) true, (0, state) ∷ [])

  -- what contracts see of a seat of the table
  abbrev pub seat_state : TableSeat S (SeatView E) → SeatState S E
  seat_state s = record { token = token s.table_id (only_known s.me.0.known); held = last_taken s.me.1 }

  -- the seat has one token, and holds the state if and only if its view says so
  abbrev pub IsIdleOrInside : TableSeat S (SeatView E) → Type 0
  IsIdleOrInside s = s.me ≡ seat_with (only_known s.me.0.known) (last_taken s.me.1)
