-- What each step at the gate proves for its caller, and how it changes the view of the caller's seat.
use Rattle.std.specs.Prelude.{◌≡◌, ◌≢◌, ℕ, true, false, List, [], ◌∷◌, map, Option, Some, None}
use Rattle.std.specs.List.{AllByRecursion}
use Rattle.atomic_table.specs.Table.{Me, Step, rest}
use Rattle.flow_law.specs.declared.history.HistoryEvent.{HistoryEvent}
use Rattle.flow_law.specs.declared.history.Knowledge.{Knowledge}
use Rattle.flow_law.specs.history.Growth.{Fits, sees, loses, adds}
use Rattle.flow_law.specs.history.RealTime.{IsTimed}
use Rattle.flow_gate.specs.declared.view.SeatView.{SeatView}
use Rattle.flow_gate.specs.View.{seat_view}

module _ {E : Type 0} where
  -- what the first token of a view knows (a joined view has two tokens)
  abbrev pub first_known : List (Knowledge E) → List (Knowledge E)
  first_known [] = []
  first_known (k ∷ ks) = k ∷ []

  -- what the tokens after the first one know
  abbrev pub others_known : List (Knowledge E) → List (Knowledge E)
  others_known [] = []
  others_known (k ∷ ks) = ks

  -- for which histories a state stands; every history if the first state is not known
  abbrev pub stands_from : {S F : Type 0} → (F → S → List (HistoryEvent E) → Type 0) → Option F
      → S → List (HistoryEvent E) → Type 0
  stands_from stands (Some first) state history = stands first state history
  stands_from stands None state history = Unit {0}

  module _ {S : Type 0} (stands : S → List (HistoryEvent E) → Type 0) where
    -- what a caller at the table holds
    abbrev pub Pass : Type 0
    Pass = Me S (SeatView E)

    -- if the gate was free, the seat holds the state and has seen the history that it stands for; if not, it has lost
    -- the exchange
    abbrev pub entered : Step S → Pass → ℕ → Pass → Type 0
    entered step before found after =
        (found ≡ 0 → (history : List (HistoryEvent E)) × (state : S) × stands state history
        × AllByRecursion (Fits history) before.0.known
        × (after ≡ (seat_view (map (sees history) before.0.known) true, (0, state) ∷ before.1)) × IsTimed history)
        × (found ≢ 0 → after ≡ (seat_view (map loses before.0.known) false, before.1))

    -- the seat has seen the history so far, and some state stands for it
    abbrev pub observed : Step S → Pass → ℕ → Pass → Type 0
    observed step before found after =
        (history : List (HistoryEvent E)) × (state : S) × stands state history
        × AllByRecursion (Fits history) before.0.known
        × (after ≡ (seat_view (map (sees history) before.0.known) before.0.holds, before.1)) × IsTimed history

    -- nothing has changed, and some state stands for the history so far
    abbrev pub looked : Step S → Pass → ℕ → Pass → Type 0
    looked step before found after =
        (history : List (HistoryEvent E)) × (state : S) × stands state history
        × AllByRecursion (Fits history) before.0.known × (after ≡ before) × IsTimed history

  -- the seat no longer holds the state, and has seen the events that it added
  abbrev pub left : {S : Type 0} → List E → Step S → Me S (SeatView E) → ℕ → Me S (SeatView E) → Type 0
  left added step before found after = after ≡ (seat_view (map (adds added) before.0.known) false, rest before.1)
