-- A state flow as a checker keeps it. Begin with `state_stepped`. No public clause cites this module.
use Rattle.std.specs.Prelude.{ℕ, Bool, true, false, not, ◌==◌, if◌then◌else◌, List, length, drop, slice_index, slice_set, Option, Some, None}
use Rattle.flow_check.specs.declared.state_calls.StateOperation.{StateOperation}
use Rattle.flow_check.specs.declared.state_calls.StateOperation.TheVariants as operation
use Rattle.flow_check.specs.declared.state_calls.StateAnswer.{StateAnswer}
use Rattle.flow_check.specs.declared.state_calls.StateAnswer.TheVariants as answer
use Rattle.flow_check.specs.declared.state_calls.StateEntry.{StateEntry}
use Rattle.flow_check.specs.Subscribed.{kept_of, present}
use Rattle.flow_check.specs.Words.{number_in_words, parts_in_words}

-- The value, and what each caller has received: None if it is not subscribed, and else the last value that it received.
pub record StateKept : Type 0 where
  pub value : ℕ
  pub readers : List (Option (Option ℕ))

-- what is kept for a caller
abbrev pub reader_of : ℕ → List (Option (Option ℕ)) → Option (Option ℕ)
reader_of = kept_of

-- ---- answers

-- the answer of a `subscribe`, none for a caller that is subscribed
abbrev pub subscribe_answer : Option (Option ℕ) → Option StateAnswer
subscribe_answer None = Some answer.Done
subscribe_answer (Some last) = None

-- the answer of a `next`, none for a caller that is not subscribed
abbrev pub state_next_answer : ℕ → Option (Option ℕ) → Option StateAnswer
state_next_answer v None = None
state_next_answer v (Some None) = Some (answer.Value v)
state_next_answer v (Some (Some last)) = Some (if last == v then answer.Empty else answer.Value v)

-- the answer of an `unsubscribe`, none for a caller that is not subscribed
abbrev pub unsubscribe_answer : Option (Option ℕ) → Option StateAnswer
unsubscribe_answer None = None
unsubscribe_answer (Some last) = Some answer.Done

-- the flow's own answer to a caller, if the caller may make the call
abbrev pub state_own_answer : ℕ → StateOperation → StateKept → Option StateAnswer
state_own_answer caller operation.Value s = Some (answer.Value s.value)
state_own_answer caller (operation.Set v) s = Some answer.Done
state_own_answer caller (operation.TryEmit v) s = Some (answer.Truth true)
state_own_answer caller (operation.CompareAndSet a b) s = Some (answer.Truth (s.value == a))
state_own_answer caller operation.Subscribe s = subscribe_answer (reader_of caller s.readers)
state_own_answer caller operation.Next s = state_next_answer s.value (reader_of caller s.readers)
state_own_answer caller operation.Unsubscribe s = unsubscribe_answer (reader_of caller s.readers)
state_own_answer caller operation.SubscriptionCount s = Some (answer.Number (present s.readers))
state_own_answer caller operation.ReplayCache s = Some (answer.Value s.value)

-- ---- the state after a call that had the flow's own answer

-- the state with this kept for a caller
abbrev pub with_reader : ℕ → Option (Option ℕ) → StateKept → StateKept
with_reader caller reader s = record s { readers = slice_set s.readers caller reader }

-- the state after a call
abbrev pub state_moved : ℕ → StateOperation → StateKept → StateKept
state_moved caller operation.Value s = s
state_moved caller (operation.Set v) s = record s { value = v }
state_moved caller (operation.TryEmit v) s = record s { value = v }
state_moved caller (operation.CompareAndSet a b) s = if s.value == a then record s { value = b } else s
state_moved caller operation.Subscribe s = with_reader caller (Some None) s
state_moved caller operation.Next s = with_reader caller (Some (Some s.value)) s
state_moved caller operation.Unsubscribe s = with_reader caller None s
state_moved caller operation.SubscriptionCount s = s
state_moved caller operation.ReplayCache s = s

-- ---- steps

-- the recorded answer is the flow's own
abbrev pub state_same_answer : StateAnswer → StateAnswer → Bool
state_same_answer answer.Done answer.Done = true
state_same_answer (answer.Value v) (answer.Value w) = v == w
state_same_answer (answer.Truth b) (answer.Truth c) = if b then c else not c
state_same_answer answer.Empty answer.Empty = true
state_same_answer (answer.Number m) (answer.Number n) = m == n
state_same_answer _ _ = false

-- the own answer is the one that was recorded, if one was
abbrev pub state_agrees : Option StateAnswer → Option StateAnswer → Bool
state_agrees None written = false
state_agrees (Some own) None = true
state_agrees (Some own) (Some a) = state_same_answer own a

-- the state after a recorded call, None if its answer is not the flow's own
abbrev pub state_stepped : StateKept → ℕ → StateEntry → Option StateKept
state_stepped s caller entry =
    if state_agrees (state_own_answer caller entry.operation s) entry.answer then Some (state_moved caller entry.operation s) else None

-- no call of a state flow is skipped
abbrev pub state_may_skip : StateEntry → Bool
state_may_skip entry = false

-- ---- words

-- what a caller has received, as words encode it
abbrev pub reader_in : List ℕ → Option (Option ℕ)
reader_in words =
    if slice_index words 0 == 0 then None
    else (if slice_index words 0 == 1 then Some None else Some (Some (number_in_words (drop 1 words))))

-- the state that words encode: the value, and what each caller has received
abbrev pub read_state_kept : StateKept → List ℕ → StateKept
read_state_kept s words = record { value = number_in_words words; readers = parts_in_words reader_in (drop 3) (length s.readers) (drop 2 words) }
