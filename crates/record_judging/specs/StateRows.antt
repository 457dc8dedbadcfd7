-- The parts as which the written calls of a state flow are judged. Begin with `AreStateCalls`.
use Rattle.std.specs.Prelude.{◌≡◌, ℕ, true, List, [], ◌∷◌, map, take, drop, Option, Some, None, Vec}
use Rattle.std.specs.List.{flat_map}
use Rattle.std.specs.declared.alloc.Global.{Global}
use Rattle.flow_check.specs.declared.timed.Timed.{Timed}
use Rattle.flow_check.specs.declared.state_calls.StateOperation.{StateOperation}
use Rattle.flow_check.specs.declared.state_calls.StateOperation.TheVariants as operation
use Rattle.flow_check.specs.declared.state_calls.StateAnswer.{StateAnswer}
use Rattle.flow_check.specs.declared.state_calls.StateAnswer.TheVariants as answer
use Rattle.flow_check.specs.declared.state_calls.StateEntry.{StateEntry}
use Rattle.flow_check.specs.Records.{CallsByCaller}
use Rattle.record_judging.specs.declared.words.CallWord.{CallWord}
use Rattle.record_judging.specs.declared.words.CallWord.TheVariants as word
use Rattle.record_judging.specs.declared.written.Range.{Range}
use Rattle.record_judging.specs.declared.written.WrittenAnswer.{WrittenAnswer}
use Rattle.record_judging.specs.declared.written.WrittenAnswer.TheVariants as written
use Rattle.record_judging.specs.declared.written.WrittenCall.{WrittenCall}

-- the written calls of each caller
abbrev pub Rows : Type 0
Rows = List (Vec WrittenCall Global)

-- the values of a list within the lists of a record
abbrev pub values_in : List ℕ → Range → List ℕ
values_in lists range = take range.count (drop range.from lists)

-- a state flow replays its value, so no other list is an answer
abbrev pub only_value : List ℕ → StateAnswer
only_value (v ∷ []) = answer.Value v
only_value _ = answer.Empty

-- the answer of a part; an `update` exchanged the old value for the new one
abbrev pub written_state_answer : List ℕ → WrittenAnswer → StateAnswer
written_state_answer lists written.Done = answer.Done
written_state_answer lists written.Cancelled = answer.Done
written_state_answer lists written.Empty = answer.Empty
written_state_answer lists (written.Value v) = answer.Value v
written_state_answer lists (written.Truth b) = answer.Truth b
written_state_answer lists (written.Number n) = answer.Number n
written_state_answer lists (written.Values range) = only_value (values_in lists range)
written_state_answer lists (written.Exchange a b) = answer.Truth true

-- the answer of a part, if one is known; that of a cancelled `first` is not
abbrev pub state_known : List ℕ → Option WrittenAnswer → Option StateAnswer
state_known lists None = None
state_known lists (Some written.Cancelled) = None
state_known lists (Some a) = Some (written_state_answer lists a)

-- the answer of a part that has only one, if the call has an answer
abbrev pub state_done : Option WrittenAnswer → Option StateAnswer
state_done None = None
state_done (Some a) = Some answer.Done

-- an `update` is one exchange
abbrev pub exchange : Option WrittenAnswer → StateOperation
exchange (Some (written.Exchange a b)) = operation.CompareAndSet a b
exchange _ = operation.Value

-- what is judged of a call that is one part, and of the second part of a `first`
abbrev pub state_operation : CallWord → WrittenCall → StateOperation
state_operation word.Value c = operation.Value
state_operation word.Set c = operation.Set c.value
state_operation word.CompareAndSet c = operation.CompareAndSet c.expect c.value
state_operation word.Update c = exchange c.answer
state_operation word.TryEmit c = operation.TryEmit c.value
state_operation word.Emit c = operation.TryEmit c.value
state_operation word.Subscribe c = operation.Subscribe
state_operation word.Next c = operation.Next
state_operation word.Unsubscribe c = operation.Unsubscribe
state_operation word.First c = operation.Next
state_operation word.SubscriptionCount c = operation.SubscriptionCount
state_operation word.ReplayCache c = operation.ReplayCache
state_operation word.ResetReplayCache c = operation.Value

-- a part has the moments of its call
abbrev pub state_part : WrittenCall → StateOperation → Option StateAnswer → Timed StateEntry
state_part c o a = record { call = record { operation = o; answer = a }; begin = c.begin; end = c.end }

-- a `first` subscribes, receives a value and leaves; a cancelled one does so too, but what it received is not known
abbrev pub state_parts_by : CallWord → List ℕ → WrittenCall → List (Timed StateEntry)
state_parts_by word.First lists c =
    state_part c operation.Subscribe (state_done c.answer)
    ∷ state_part c operation.Next (state_known lists c.answer)
    ∷ state_part c operation.Unsubscribe (state_done c.answer)
    ∷ []
state_parts_by w lists c = state_part c (state_operation w c) (state_known lists c.answer) ∷ []

-- the parts of a call, in order
abbrev pub state_parts : List ℕ → WrittenCall → List (Timed StateEntry)
state_parts lists c = state_parts_by c.call lists c

-- the parts of a caller's calls, in order
abbrev pub state_row : List ℕ → List WrittenCall → List (Timed StateEntry)
state_row lists calls = flat_map (state_parts lists) calls

-- the calls that are judged are the parts of the written ones
abbrev pub AreStateCalls : List ℕ → Rows → CallsByCaller StateEntry → Type 0
AreStateCalls lists rows callers = map (λ row. row.items) callers ≡ map (λ row. state_row lists row.items) rows
