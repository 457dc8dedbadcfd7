-- What contracts see of a gate and of its seats.
-- Begin with `SeatState`, and with `Finds`: what a caller that enters finds.
use Rattle.std.specs.Prelude.{◌≡◌, List, Option, Some, None}
use Rattle.atomic_table.specs.Seated.{TableId}
use Rattle.flow_law.specs.declared.history.HistoryEvent.{HistoryEvent}
use Rattle.flow_law.specs.history.Growth.{Fits, after_events, knowledge, sees}
use Rattle.flow_law.specs.history.Promise.{Token}
use Rattle.flow_law.specs.history.RealTime.{IsTimed}
use Rattle.flow_law.specs.history.Tokens.{Origin, knowing, Begins}

-- the token of a seat: its gate, and what it knows
abbrev pub GateToken : Type 0 → Type 0
GateToken = Token TableId

-- a gate: which one it is, and the state that it began with
abbrev pub GateOrigin : Type 0 → Type 0
GateOrigin = Origin TableId

-- a seat: its token and, while its caller is inside, the state that it holds
pub record SeatState (S E : Type 0) : Type 0 where
  pub token : GateToken E
  pub held : Option S

module _ {S E : Type 0} where
  -- a seat with this token, whose caller is not inside
  abbrev pub idle_seat : GateToken E → SeatState S E
  idle_seat t = record { token = t; held = None }

  -- a seat with this token, whose caller is inside and holds this state
  abbrev pub seat_holding : GateToken E → S → SeatState S E
  seat_holding t state = record { token = t; held = Some state }

  -- the caller of the seat is not inside
  abbrev pub IsIdle : SeatState S E → Type 0
  IsIdle seat = seat.held ≡ None

  -- the caller of the seat is inside, and holds some state
  abbrev pub IsInside : SeatState S E → Type 0
  IsInside seat = (state : S) × (seat.held ≡ Some state)

  -- a new gate that began with this state, and its first seat, which has seen nothing
  abbrev pub BeginsIdle : S → GateOrigin S × SeatState S E → Type 0
  BeginsIdle first made = Begins first (made.0, made.1.token) × IsIdle made.1

module _ {S E : Type 0} (stands : S → S → List (HistoryEvent E) → Type 0) (gate : GateOrigin S) where
  -- A caller that enters finds a state that stands for a history, and holds it. The history is what its token had seen,
  -- followed by events of other callers, within the token's rule of names. The token has then seen this history.
  pub record Finds (before : GateToken E) (after : SeatState S E) : Type 0 where
    pub history : List (HistoryEvent E)
    pub state : S
    pub stood : stands gate.first state history
    pub fits : Fits history before.knows
    -- each call of the history began before its event, and after its caller's last event
    pub timed : IsTimed history
    pub held : after.held ≡ Some state
    pub token : after.token ≡ knowing before
        (knowledge before.knows.name before.knows.made after.token.knows.lost history)

  -- `Finds`, and no exchange was lost
  abbrev pub FindsAtOnce : GateToken E → SeatState S E → Type 0
  FindsAtOnce before after = Finds before after × (after.token.knows.lost ≡ before.knows.lost)

  -- the seat holds a state that stands for what its token has seen, followed by these events under its name
  abbrev pub StandsWith : SeatState S E → List E → Type 0
  StandsWith seat added = (state : S) × (seat.held ≡ Some state)
      × stands gate.first state (after_events seat.token.knows.name added seat.token.knows.seen)

  -- Two tokens meet: both have then seen one history, for which some state stood, and which fits what each had seen.
  pub record MeetsAtGate (one other one_after other_after : GateToken E) : Type 0 where
    pub history : List (HistoryEvent E)
    pub stood : (state : S) × stands gate.first state history
    pub timed : IsTimed history
    pub fits_one : Fits history one.knows
    pub fits_other : Fits history other.knows
    pub sees_one : one_after ≡ knowing one (sees history one.knows)
    pub sees_other : other_after ≡ knowing other (sees history other.knows)

  -- the state stands for a history
  abbrev pub StandsForSome : S → Type 0
  StandsForSome state = (history : List (HistoryEvent E)) × stands gate.first state history

  -- the state stands for a history: what the token has seen, followed by events of other callers, within the token's
  -- rule of names, whose calls began in time
  abbrev pub StandsAfter : GateToken E → S → Type 0
  StandsAfter t state =
      (history : List (HistoryEvent E)) × stands gate.first state history × Fits history t.knows × IsTimed history

  -- some state satisfies `StandsAfter`
  abbrev pub HasStood : GateToken E → Type 0
  HasStood t = (state : S) × StandsAfter t state
