-- The view of a seat at the table: what the tokens in it know, and whether it holds the state.
use Rattle.std.specs.Prelude.{Bool, false, List, [], ◌∷◌}
use Rattle.flow_law.specs.declared.history.Knowledge.{Knowledge}
use Rattle.flow_law.specs.history.Growth.{first_knowledge}
use Rattle.flow_gate.specs.declared.view.SeatView.{SeatView}

module _ {E : Type 0} where
  -- the view of a seat with these tokens
  abbrev pub seat_view : List (Knowledge E) → Bool → SeatView E
  seat_view known holds = record { known = known; holds = holds }

  -- the view of the first seat
  abbrev pub first_view : SeatView E
  first_view = seat_view (first_knowledge ∷ []) false
