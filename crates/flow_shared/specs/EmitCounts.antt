-- How many events with a name are an `emit`.
use Rattle.std.specs.Prelude.{ℕ, ◌+◌, Bool, true, List, [], ◌∷◌, Option, Some, None}
use Rattle.flow_law.specs.declared.history.HistoryEvent.{HistoryEvent}
use Rattle.flow_law.specs.declared.history.Said.{Said}
use Rattle.flow_law.specs.declared.call.SharedCall.{SharedCall}
use Rattle.flow_law.specs.declared.call.SharedCall.TheVariants.{Emit}
use Rattle.flow_law.specs.declared.call.SharedReply.{SharedReply}
use Rattle.flow_law.specs.history.Done.{is_same_name}
use Rattle.flow_shared.specs.SharedReplies.{SharedToken}

module _ {T : Type 0} where
  -- 1 for an `emit` of an event with this name, else 0
  abbrev pub emit_of : Bool → SharedCall T → ℕ
  emit_of true (Emit v) = 1
  emit_of _ _ = 0

  -- how many events with this name are an `emit`
  abbrev pub emits : List ℕ → List (HistoryEvent (Said (SharedCall T) (SharedReply T))) → ℕ
  emits name [] = 0
  emits name (e ∷ es) = emit_of (is_same_name name e.name) e.what.call + emits name es

  -- how many `emit`s the token has made
  abbrev pub emits_made : Option (SharedToken T) → ℕ
  emits_made (Some t) = emits t.knows.name t.knows.seen
  emits_made None = 0
