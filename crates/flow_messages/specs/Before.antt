-- Which event comes first in a history. Begin with `ComesBefore`.
use Rattle.std.specs.Prelude.{◌≡◌, ℕ, List, ◌∷◌, ◌++◌}
use Rattle.flow_law.specs.declared.call.StateCall.{StateCall}
use Rattle.flow_law.specs.declared.call.StateCall.TheVariants.{Set, GetValue}
use Rattle.flow_law.specs.declared.call.StateReply.{StateReply}
use Rattle.flow_law.specs.declared.call.StateReply.TheVariants.{Done, Got}
use Rattle.flow_law.specs.declared.history.HistoryEvent.{HistoryEvent}
use Rattle.flow_law.specs.declared.history.Knowledge.{Knowledge}
use Rattle.flow_law.specs.declared.history.Said.{Said}
use Rattle.flow_law.specs.history.Growth.{child_name, event}
use Rattle.flow_law.specs.history.Promise.{said}

-- what the events of a state flow of numbers say
abbrev pub SaysNumber : Type 0
SaysNumber = Said (StateCall ℕ) (StateReply ℕ)

module _ {E : Type 0} where
  -- the history has this event
  abbrev pub Has : HistoryEvent E → List (HistoryEvent E) → Type 0
  Has e h = (before : List (HistoryEvent E)) × (after : List (HistoryEvent E)) × (h ≡ before ++ e ∷ after)

  -- the history has both events, the first one before the second one
  abbrev pub ComesBefore : HistoryEvent E → HistoryEvent E → List (HistoryEvent E) → Type 0
  ComesBefore first second h =
      (before : List (HistoryEvent E)) × (between : List (HistoryEvent E)) × (after : List (HistoryEvent E))
      × (h ≡ before ++ first ∷ (between ++ second ∷ after))

-- the caller of this name set the value, by a call that began when the history had `began` events
abbrev pub set_by : List ℕ → ℕ → ℕ → HistoryEvent SaysNumber
set_by name began value = event name began (said (Set value) Done)

-- the caller of this name read the value, by such a call
abbrev pub read_event : List ℕ → ℕ → ℕ → HistoryEvent SaysNumber
read_event name began value = event name began (said GetValue (Got value))

-- the token has seen that its maker set the value
abbrev pub IsSetByMaker : ℕ → Knowledge SaysNumber → Type 0
IsSetByMaker value k = (maker : List ℕ) × (j : ℕ) × (k.name ≡ child_name maker j) × (began : ℕ) × Has (set_by maker began value) k.seen

-- a caller set `value`, and later in the history this token read `found`
abbrev pub ReadsAfterSet : ℕ → ℕ → Knowledge SaysNumber → Type 0
ReadsAfterSet value found k =
    (sender : List ℕ) × (set_began : ℕ) × (read_began : ℕ)
    × ComesBefore (set_by sender set_began value) (read_event k.name read_began found) k.seen
