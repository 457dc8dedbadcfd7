-- Which calls of a state flow change nothing. No public clause cites this module.
use Rattle.std.specs.Prelude.{Bool, true, false, not, Option, Some}
use Rattle.flow_check.specs.declared.state_calls.StateOperation.{StateOperation}
use Rattle.flow_check.specs.declared.state_calls.StateOperation.TheVariants as operation
use Rattle.flow_check.specs.declared.state_calls.StateAnswer.{StateAnswer}
use Rattle.flow_check.specs.declared.state_calls.StateAnswer.TheVariants as answer
use Rattle.flow_check.specs.declared.state_calls.StateEntry.{StateEntry}
use Rattle.flow_check.specs.StateMachine.{StateKept}

-- the call changes nothing if it has this answer
abbrev pub state_looks_by : StateOperation → Option StateAnswer → Bool
state_looks_by operation.Value written = true
state_looks_by operation.SubscriptionCount written = true
state_looks_by operation.ReplayCache written = true
state_looks_by (operation.CompareAndSet a b) (Some (answer.Truth c)) = not c
state_looks_by operation.Next (Some answer.Empty) = true
state_looks_by _ _ = false

-- the call changes nothing if it is answered as recorded
abbrev pub is_state_look : StateEntry → Bool
is_state_look entry = state_looks_by entry.operation entry.answer

-- every state is sound
abbrev pub IsAlwaysSound : StateKept → Type 0
IsAlwaysSound s = Unit {0}
