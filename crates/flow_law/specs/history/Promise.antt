-- What a call of a flow for several threads promises (`CallsIn`): its caller's token has then seen a history that the flow may have
-- had. It begins with all that the token had seen, goes on with events of other callers, and ends with this call and its reply.
use Rattle.std.specs.Prelude.{◌≡◌, ℕ, ◌≤◌, ◌<◌, List, ◌++◌, ◌∷◌, [], length}
use Rattle.flow_law.specs.declared.history.HistoryEvent.{HistoryEvent}
use Rattle.flow_law.specs.declared.history.Knowledge.{Knowledge}
use Rattle.flow_law.specs.declared.history.Said.{Said}
use Rattle.flow_law.specs.history.Growth.{event, IsSilent, NamesOnlyMade}
use Rattle.flow_law.specs.history.History.{Kind, IsHistory}
use Rattle.flow_law.specs.history.RealTime.{IsTimed}

-- a token: its flow, and what it knows (its name, how many tokens were made through it and how many attempts failed, the history)
pub record Token (Id E : Type 0) : Type 0 where
  pub table_id : Id
  pub knows : Knowledge E

-- the later history is the earlier one, then events of others, then the token's own event, whose call began at `began`
abbrev pub Grows : {E : Type 0} → List ℕ → List (HistoryEvent E) → ℕ → E → List (HistoryEvent E) → Type 0
Grows name earlier began what later = (between : List (HistoryEvent _)) × (later ≡ (earlier ++ between) ++ event name began what ∷ []) × IsSilent name between

-- a call, and its reply
abbrev pub said : {C R : Type 0} → C → R → Said C R
said call reply = record { call = call; reply = reply }

-- what the token knows before and after. `IsHistory` says which histories the flow may have had
pub record AddsOne {C R : Type 0} (IsHistory : List (HistoryEvent (Said C R)) → Type 0) (before : Knowledge (Said C R)) (call : C) (reply : R) (after : Knowledge (Said C R)) : Type 0 where
  pub name : after.name ≡ before.name
  pub made : after.made ≡ before.made
  pub lost : before.lost ≤ after.lost  -- a call that waits may fail to enter at first
  pub history : IsHistory after.seen
  -- how many events the history had when the call began
  pub began : ℕ
  pub grows : Grows before.name before.seen began (said call reply) after.seen
  -- it began after all that the token had seen, and before its own event
  pub in_time : (length before.seen ≤ began) × (began < length after.seen)
  -- so did each call of the history, by what its own caller had done
  pub timed : IsTimed after.seen
  -- no other caller has its name, or the name of a token that is yet to be made through it
  pub names : NamesOnlyMade after.name after.made after.seen

module _ {Id T S C R : Type 0} (kind : Kind T S C R) (first : S) where
  -- the token made this call of a flow that began in this state, and got this reply. Such histories are legal and owned
  abbrev pub CallsIn : Token Id (Said C R) → C → R → Token Id (Said C R) → Type 0
  CallsIn before call reply after = (after.table_id ≡ before.table_id) × AddsOne (IsHistory kind first) before.knows call reply after.knows

  -- the same, of a call that does not wait: it lost no attempt
  abbrev pub CallsAtOnceIn : Token Id (Said C R) → C → R → Token Id (Said C R) → Type 0
  CallsAtOnceIn before call reply after = CallsIn before call reply after × (after.knows.lost ≡ before.knows.lost)
