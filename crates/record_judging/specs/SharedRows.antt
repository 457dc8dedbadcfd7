-- The parts as which the written calls of a shared flow are judged. Begin with `AreSharedCalls`.
use Rattle.std.specs.Prelude.{◌≡◌, ℕ, List, [], ◌∷◌, ◌++◌, map, Option, Some, None}
use Rattle.std.specs.List.{flat_map}
use Rattle.std.specs.Borrow.{Bor}
use Rattle.flow_check.specs.declared.timed.Timed.{Timed}
use Rattle.flow_check.specs.declared.shared_calls.SharedOperation.{SharedOperation}
use Rattle.flow_check.specs.declared.shared_calls.SharedOperation.TheVariants as operation
use Rattle.flow_check.specs.declared.shared_calls.SharedAnswer.{SharedAnswer}
use Rattle.flow_check.specs.declared.shared_calls.SharedAnswer.TheVariants as answer
use Rattle.flow_check.specs.declared.shared_calls.SharedEntry.{SharedEntry}
use Rattle.flow_check.specs.Records.{CallsByCaller}
use Rattle.record_judging.specs.declared.words.CallWord.{CallWord}
use Rattle.record_judging.specs.declared.words.CallWord.TheVariants as word
use Rattle.record_judging.specs.declared.written.WrittenAnswer.{WrittenAnswer}
use Rattle.record_judging.specs.declared.written.WrittenAnswer.TheVariants as written
use Rattle.record_judging.specs.declared.written.WrittenCall.{WrittenCall}
use Rattle.record_judging.specs.StateRows.{Rows, values_in}

-- ---- lists, wherever they lie in memory

-- the list, without where it lies
abbrev pub unplaced : List ℕ → Bor (List ℕ)
unplaced values = record { ref_ptr = (0, 0); now = values }

-- the operation, without where its list lies
abbrev pub plain_operation : SharedOperation → SharedOperation
plain_operation (operation.Subscribe own) = operation.Subscribe (unplaced own.now)
plain_operation o = o

-- the answer, without where its list lies
abbrev pub plain_answer : SharedAnswer → SharedAnswer
plain_answer (answer.Values values) = answer.Values (unplaced values.now)
plain_answer a = a

-- the answer, if there is one, without where its list lies
abbrev pub plain_known : Option SharedAnswer → Option SharedAnswer
plain_known None = None
plain_known (Some a) = Some (plain_answer a)

-- the part, without where its lists lie
abbrev pub plain : Timed SharedEntry → Timed SharedEntry
plain part = record part { call = record { operation = plain_operation part.call.operation; answer = plain_known part.call.answer } }

-- ---- parts

-- the answer of a part
abbrev pub written_shared_answer : List ℕ → WrittenAnswer → SharedAnswer
written_shared_answer lists written.Empty = answer.Empty
written_shared_answer lists (written.Value v) = answer.Value v
written_shared_answer lists (written.Truth b) = answer.Truth b
written_shared_answer lists (written.Number n) = answer.Number n
written_shared_answer lists (written.Values range) = answer.Values (unplaced (values_in lists range))
written_shared_answer lists _ = answer.Done

-- what is known of the value that a `first` receives: a pending one leaves only after it has received a value, and a cancelled one
-- may have received none
abbrev pub known_of_first : List ℕ → Option WrittenAnswer → Option SharedAnswer
known_of_first lists None = Some answer.SomeValue
known_of_first lists (Some written.Cancelled) = None
known_of_first lists (Some a) = Some (written_shared_answer lists a)

-- the answer of a part, if one is known
abbrev pub shared_known : List ℕ → CallWord → Option WrittenAnswer → Option SharedAnswer
shared_known lists word.First a = known_of_first lists a
shared_known lists w (Some a) = Some (written_shared_answer lists a)
shared_known lists w None = None

-- the answer of a part that has only one, if the call has an answer
abbrev pub shared_done : Option WrittenAnswer → Option SharedAnswer
shared_done None = None
shared_done (Some a) = Some answer.Done

-- the beginning of an `emit`: a cancelled one may not have begun
abbrev pub emit_begins : ℕ → Option WrittenAnswer → SharedOperation
emit_begins v (Some written.Cancelled) = operation.EmitOrNot v
emit_begins v _ = operation.Emit v

-- what is judged of a call that is one part, of the beginning of an `emit` and of the second part of a `first`
abbrev pub shared_operation : List ℕ → CallWord → WrittenCall → SharedOperation
shared_operation lists word.TryEmit c = operation.TryEmit c.value
shared_operation lists word.Emit c = emit_begins c.value c.answer
shared_operation lists word.Subscribe c = operation.Subscribe (unplaced (values_in lists c.first))
shared_operation lists word.Next c = operation.Next
shared_operation lists word.First c = operation.Next
shared_operation lists word.Unsubscribe c = operation.Unsubscribe
shared_operation lists word.SubscriptionCount c = operation.SubscriptionCount
shared_operation lists word.ResetReplayCache c = operation.ResetReplayCache
shared_operation lists _ c = operation.ReplayCache

-- a part has the moments of its call
abbrev pub shared_part : WrittenCall → SharedOperation → Option SharedAnswer → Timed SharedEntry
shared_part c o a = record { call = record { operation = o; answer = a }; begin = c.begin; end = c.end }

-- the part before that of a call's word: a `first` subscribes
abbrev pub first_parts : CallWord → WrittenCall → List (Timed SharedEntry)
first_parts word.First c = shared_part c (operation.Subscribe (unplaced [])) (shared_done c.answer) ∷ []
first_parts _ c = []

-- the operation after that of a call's word: a `first` leaves, and an `emit` that ended returned or was cancelled
abbrev pub last_operation : CallWord → Option WrittenAnswer → Option SharedOperation
last_operation word.First a = Some operation.Unsubscribe
last_operation word.Emit (Some written.Cancelled) = Some operation.EmitCancelled
last_operation word.Emit (Some a) = Some operation.EmitReturned
last_operation _ a = None

-- the operation of a last part, if there is one, without where its list lies
abbrev pub plain_last : Option SharedOperation → Option SharedOperation
plain_last None = None
plain_last (Some o) = Some (plain_operation o)

-- a part of this operation, if there is one
abbrev pub last_parts : Option SharedOperation → WrittenCall → List (Timed SharedEntry)
last_parts None c = []
last_parts (Some o) c = shared_part c o (shared_done c.answer) ∷ []

-- the part of a call's word
abbrev pub main_part : List ℕ → WrittenCall → Timed SharedEntry
main_part lists c = shared_part c (shared_operation lists c.call c) (shared_known lists c.call c.answer)

-- the parts of a call, in order
abbrev pub shared_entries : List ℕ → WrittenCall → List (Timed SharedEntry)
shared_entries lists c = first_parts c.call c ++ main_part lists c ∷ last_parts (last_operation c.call c.answer) c

-- the parts of a caller's calls, in order
abbrev pub shared_row : List ℕ → List WrittenCall → List (Timed SharedEntry)
shared_row lists calls = flat_map (shared_entries lists) calls

-- the calls that are judged are the parts of the written ones
abbrev pub AreSharedCalls : List ℕ → Rows → CallsByCaller SharedEntry → Type 0
AreSharedCalls lists rows callers = map (λ row. map plain row.items) callers ≡ map (λ row. shared_row lists row.items) rows
