-- Which calls of a state flow only their callers can see. Begin with `is_state_private`. No public clause cites this module.
use Rattle.std.specs.Prelude.{◌≡◌, ℕ, Bool, true, Option, Some}
use Rattle.flow_check.specs.declared.state_calls.StateOperation.{StateOperation}
use Rattle.flow_check.specs.declared.state_calls.StateOperation.TheVariants as operation
use Rattle.flow_check.specs.declared.state_calls.StateAnswer.{StateAnswer}
use Rattle.flow_check.specs.declared.state_calls.StateAnswer.TheVariants as answer
use Rattle.flow_check.specs.declared.state_calls.StateEntry.{StateEntry}
use Rattle.flow_check.specs.StateMachine.{StateKept, reader_of, with_reader}
use Rattle.flow_check.specs.StateLooks.{state_looks_by}

-- a `next` that gave a value is private, and so is a call that changes nothing
abbrev pub state_private_by : StateOperation → Option StateAnswer → Bool
state_private_by operation.Next (Some (answer.Value v)) = true
state_private_by op written = state_looks_by op written

-- no other caller can see when the call happens, if it is answered as recorded
abbrev pub is_state_private : StateEntry → Bool
is_state_private entry = state_private_by entry.operation entry.answer

-- the caller is subscribed in the state s, and has received the value in the state t
abbrev pub HasReceived : ℕ → ℕ → StateKept → StateKept → Type 0
HasReceived v caller s t = (last : Option ℕ) × (reader_of caller s.readers ≡ Some last) × (t ≡ with_reader caller (Some (Some v)) s)

-- t is the state s, but that the caller's private call has happened in it already
abbrev pub ahead_by : StateOperation → Option StateAnswer → ℕ → StateKept → StateKept → Type 0
ahead_by operation.Next (Some (answer.Value v)) caller s t = HasReceived v caller s t
ahead_by op written caller s t = t ≡ s

abbrev pub IsStateAhead : ℕ → StateEntry → StateKept → StateKept → Type 0
IsStateAhead caller entry s t = ahead_by entry.operation entry.answer caller s t
