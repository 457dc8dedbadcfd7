-- Which calls of a shared flow change nothing. No public clause cites this module.
use Rattle.std.specs.Prelude.{◌≡◌, ◌≤◌, Bool, true, false, not, length, Option, Some}
use Rattle.flow_check.specs.declared.shared_calls.SharedOperation.{SharedOperation}
use Rattle.flow_check.specs.declared.shared_calls.SharedOperation.TheVariants as operation
use Rattle.flow_check.specs.declared.shared_calls.SharedAnswer.{SharedAnswer}
use Rattle.flow_check.specs.declared.shared_calls.SharedAnswer.TheVariants as answer
use Rattle.flow_check.specs.declared.shared_calls.SharedEntry.{SharedEntry}
use Rattle.flow_check.specs.SharedMachine.{Kept, most_lag, trim}

-- the call changes nothing if it has this answer
abbrev pub looks_by : SharedOperation → Option SharedAnswer → Bool
looks_by operation.EmitReturned written = true
looks_by operation.ReplayCache written = true
looks_by operation.SubscriptionCount written = true
looks_by (operation.TryEmit v) (Some (answer.Truth taken)) = not taken
looks_by operation.Next (Some answer.Empty) = true
looks_by _ _ = false

-- the call changes nothing if it is answered as recorded
abbrev pub is_look : SharedEntry → Bool
is_look entry = looks_by entry.operation entry.answer

-- the state keeps the values that some subscriber has still to receive, and those of the replay cache
abbrev pub HasValues : Kept → Type 0
HasValues s = (most_lag s.lags ≤ length s.values) × (s.cached ≤ length s.values)

-- the state keeps the values that are needed, and no others
abbrev pub KeepsWhatIsNeeded : Kept → Type 0
KeepsWhatIsNeeded s = HasValues s × (trim s ≡ s)
