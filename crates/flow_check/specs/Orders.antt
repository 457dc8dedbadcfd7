-- When recorded calls may have happened in an order, and when a history of a flow explains them. Begin with `Explains`.
--   caller 0    |--set 1--|        |---value: 2---|
--   caller 1         |-----set 2------|
--   moment      0    1    2        3  4           5
-- An order is a list of callers: at each turn the next call of that caller happens. Here 0, 1, 0 explains the calls, and 1, 0, 0
-- does not: after it the value is 1.
use Rattle.std.specs.Prelude.{◌≡◌, ℕ, ◌+◌, ◌<◌, ◌==◌, false, if◌then◌else◌, List, [], ◌∷◌, ◌++◌, length, take, slice_get, Some, IsSome}
use Rattle.flow_law.specs.declared.history.HistoryEvent.{HistoryEvent}
use Rattle.flow_law.specs.declared.history.Said.{Said}
use Rattle.flow_law.specs.history.History.{Kind, IsHistory}
use Rattle.flow_check.specs.declared.timed.Timed.{Timed}
use Rattle.flow_check.specs.Records.{CallsByCaller, recorded, is_over_before}

-- how many turns a caller has
abbrev pub turns_of : ℕ → List ℕ → ℕ
turns_of caller [] = 0
turns_of caller (turn ∷ order) = if turn == caller then turns_of caller order + 1 else turns_of caller order

-- the events of all turns, one after another
abbrev pub all_events : {E : Type 0} → List (List E) → List E
all_events [] = []
all_events (part ∷ parts) = part ++ all_events parts

module _ {C : Type 0} (callers : CallsByCaller C) (order : List ℕ) where
  -- At turn n the caller's call c happens: the caller has this turn, and c is its next call after the turns that it had.
  abbrev pub HappensAt : ℕ → ℕ → Timed C → Type 0
  HappensAt n caller c = (slice_get order n ≡ Some caller) × (recorded callers caller (turns_of caller (take n order)) ≡ Some c)

  -- calls that do not overlap keep their order: a call that happens later was not over before an earlier one began
  abbrev pub KeepsTime : Type 0
  KeepsTime = (m n one other : ℕ) (c d : Timed C) → m < n → HappensAt m one c → HappensAt n other d → is_over_before d.end c.begin ≡ false

  -- each call that ended happens; a pending one may have happened
  abbrev pub HasAllEnded : Type 0
  HasAllEnded = (caller k : ℕ) (c : Timed C) → recorded callers caller k ≡ Some c → IsSome c.end → k < turns_of caller order

-- `Adds h caller c part` says that after the history h the caller's recorded call c adds these events.
module _ {T S X R C : Type 0} (kind : Kind T S X R) (Adds : List (HistoryEvent (Said X R)) → ℕ → C → List (HistoryEvent (Said X R)) → Type 0) where
  -- A history of a flow that began in the state `first` explains the calls in this order.
  pub record Explains (callers : CallsByCaller C) (first : S) (order : List ℕ) : Type 0 where
    -- the events that each turn adds to the history
    pub parts : List (List (HistoryEvent (Said X R)))
    pub one_each : length parts ≡ length order
    -- each turn is its caller's next recorded call, which adds these events
    pub turns : (n caller : ℕ) → slice_get order n ≡ Some caller
        → (c : Timed C) × HappensAt callers order n caller c
        × ((part : List (HistoryEvent (Said X R))) × (slice_get parts n ≡ Some part) × Adds (all_events (take n parts)) caller c.call part)
    pub in_time : KeepsTime callers order
    pub complete : HasAllEnded callers order
    -- the history is legal and owned
    pub history : IsHistory kind first (all_events parts)
