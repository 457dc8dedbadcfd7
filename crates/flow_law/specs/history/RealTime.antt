-- Real time: a call that had ended when another one began comes first in the history. Begin with `Linearizable`.
--   place      0    1    2    3
--   event      e    f    g    h        each call adds one event, before it returns
--   began      0    0    2    1        how many events the history had when the call began
-- The call of e had added its event when those of g and h began (0 < 2, 0 < 1): e comes before both. The calls of f and h overlapped, or
-- f's came first: neither had to.
use Rattle.std.specs.Prelude.{◌≡◌, ℕ, ◌<◌, ◌≤◌, List, [], ◌∷◌, ◌++◌, length, drop, Option, Some, None}
use Rattle.flow_law.specs.declared.call.SharedCall.{SharedCall}
use Rattle.flow_law.specs.declared.call.SharedReply.{SharedReply}
use Rattle.flow_law.specs.declared.call.StateCall.{StateCall}
use Rattle.flow_law.specs.declared.call.StateReply.{StateReply}
use Rattle.flow_law.specs.declared.history.HistoryEvent.{HistoryEvent}
use Rattle.flow_law.specs.declared.history.Said.{Said}
use Rattle.flow_law.specs.history.Growth.{IsSilent}
use Rattle.flow_law.specs.history.History.{Kind, IsLegal, IsHistory}
use Rattle.flow_law.specs.flow.SharedHistory.{shared_flow}
use Rattle.flow_law.specs.flow.SharedFlow.{SharedFlowState}
use Rattle.flow_law.specs.flow.StateFlow.{StateFlowState, state_flow}

-- When a call began of which a step is made while the history has `now` events: at its first step. `None` says that this is its first one.
abbrev pub began_at : Option ℕ → ℕ → ℕ
began_at None now = now
began_at (Some began) now = began

-- a call whose first step was made began when its token had seen `seen` events or more, and the history had no more than `now`
abbrev pub BeganSince : Option ℕ → ℕ → ℕ → Type 0
BeganSince None seen now = Unit {0}
BeganSince (Some began) seen now = (seen ≤ began) × (began ≤ now)

module _ {E : Type 0} where
  -- after these events, this event's call began before its event, and after the last event of its caller
  abbrev pub BeganInTime : List (HistoryEvent E) → HistoryEvent E → Type 0
  BeganInTime past e = (e.began ≤ length past) × IsSilent e.name (drop e.began past)

  -- so did those of all these events, which come after `past`
  abbrev pub IsTimedAfter : List (HistoryEvent E) → List (HistoryEvent E) → Type 0
  IsTimedAfter past [] = Unit {0}
  IsTimedAfter past (e ∷ es) = BeganInTime past e × IsTimedAfter (past ++ e ∷ []) es

  -- each call of the history began before its event, and after the last event of its caller
  abbrev pub IsTimed : List (HistoryEvent E) → Type 0
  IsTimed = IsTimedAfter []

  -- this event is at this place of the history
  abbrev pub IsAt : ℕ → HistoryEvent E → List (HistoryEvent E) → Type 0
  IsAt place e h = (past : List (HistoryEvent E)) × (later : List (HistoryEvent E)) × (h ≡ past ++ e ∷ later) × (length past ≡ place)

  -- the event at this place was in the history when the call of f began. If the call of that event had returned by then, it was.
  abbrev pub WasThere : ℕ → HistoryEvent E → Type 0
  WasThere place f = place < f.began

  -- the order of the history agrees with real time
  pub record InRealTime (h : List (HistoryEvent E)) : Type 0 where
    -- an event that was there when a call began comes before that call's event
    pub order : (i j : ℕ) (f : HistoryEvent E) → IsAt j f h → WasThere i f → i < j
    -- calls of one token do not overlap: the event of the earlier one was there when the later one began
    pub one_by_one : (i j : ℕ) (e f : HistoryEvent E) → IsAt i e h → IsAt j f h → e.name ≡ f.name → i < j → WasThere i f

-- Linearizability (Herlihy and Wing): the calls have one order, that of the history, in which each reply is one that the documented flow
-- gives at that place, and which agrees with real time.
pub record Linearizable {T S C R : Type 0} (kind : Kind T S C R) (first : S) (h : List (HistoryEvent (Said C R))) : Type 0 where
  pub legal : IsLegal kind first h
  pub in_real_time : InRealTime h

-- the law: each history of a flow whose calls began in time is linearizable
abbrev pub LawLinearizable : Type 0 → Type 0
LawLinearizable T =
    ((first : SharedFlowState T) (h : List (HistoryEvent (Said (SharedCall T) (SharedReply T)))) → IsHistory shared_flow first h → IsTimed h → Linearizable shared_flow first h)
    × ((first : StateFlowState T) (h : List (HistoryEvent (Said (StateCall T) (StateReply T)))) → IsHistory state_flow first h → IsTimed h → Linearizable state_flow first h)
