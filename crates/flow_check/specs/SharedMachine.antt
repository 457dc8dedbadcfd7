-- A shared flow as a checker keeps it: lags in place of positions, callers in place of numbers. Begin with `stepped`.
-- No public clause cites this module.
use Rattle.std.specs.Prelude.{ℕ, ◌+◌, ◌-◌, ◌*◌, max, min, Bool, true, false, not, ◌&&◌, ◌||◌, ◌==◌, nat_lt, nat_le, if◌then◌else◌, List, [], ◌∷◌, ◌++◌, length, take, drop, map, filter, slice_get, slice_index, slice_set, Option, Some, None, is_some}
use Rattle.std.specs.List.{list_any}
use Rattle.flow_law.specs.declared.config.Config.{Config}
use Rattle.flow_law.specs.declared.config.Overflow.{Overflow}
use Rattle.flow_law.specs.declared.config.Overflow.TheVariants.{Suspend, DropOldest, DropLatest}
use Rattle.flow_check.specs.declared.shared_calls.SharedOperation.{SharedOperation}
use Rattle.flow_check.specs.declared.shared_calls.SharedOperation.TheVariants as operation
use Rattle.flow_check.specs.declared.shared_calls.SharedAnswer.{SharedAnswer}
use Rattle.flow_check.specs.declared.shared_calls.SharedAnswer.TheVariants as answer
use Rattle.flow_check.specs.declared.shared_calls.SharedEntry.{SharedEntry}
use Rattle.flow_check.specs.declared.shared_machine.EmitCase.{EmitCase}
use Rattle.flow_check.specs.declared.shared_machine.EmitCase.TheVariants as emits
use Rattle.flow_check.specs.declared.shared_machine.Held.{Held}
use Rattle.flow_check.specs.Subscribed.{kept_of, present}
use Rattle.flow_check.specs.Words.{number_in_words, maybe_of, parts_in_words}

-- The last emitted values, and how many of them the replay cache has. For each caller its lag, which is how many emitted values it
-- has still to receive, None if it is not subscribed, and what is left of its own first values. The values whose emitters wait, and
-- the caller whose value was emitted without a buffer.
pub record Kept : Type 0 where
  pub config : Config
  pub values : List ℕ
  pub cached : ℕ
  pub lags : List (Option ℕ)
  pub owns : List (List ℕ)
  pub queue : List Held
  pub offered : Option ℕ

-- ---- what follows from a state

-- a caller's own first values, or none if the list has no place for it
abbrev pub own_in : Option (List ℕ) → List ℕ
own_in None = []
own_in (Some own) = own

-- the own first values that the caller has left
abbrev pub own_left : ℕ → List (List ℕ) → List ℕ
own_left caller owns = own_in (slice_get owns caller)

-- the greatest lag of a subscriber
abbrev pub most_lag : List (Option ℕ) → ℕ
most_lag [] = 0
most_lag (None ∷ lags) = most_lag lags
most_lag (Some lag ∷ lags) = max lag (most_lag lags)

-- no own values for any caller
abbrev pub no_values : {C : Type 0} → List C → List (List ℕ)
no_values = map (λ _. [])

-- how many values the flow's buffer may hold
abbrev pub kept_capacity : Kept → ℕ
kept_capacity s = s.config.replay + s.config.extra

-- the lag at which a subscriber blocks the flow
abbrev pub kept_window : Kept → ℕ
kept_window s = max (kept_capacity s) 1

-- the flow is blocked: some subscriber still has a whole window to receive
abbrev pub is_kept_blocked : Kept → Bool
is_kept_blocked s = nat_le (kept_window s) (most_lag s.lags)

-- what a blocked flow does with a value
abbrev pub kept_when_blocked : Overflow → EmitCase
kept_when_blocked Suspend = emits.Queues
kept_when_blocked DropLatest = emits.DropsLatest
kept_when_blocked DropOldest = emits.DropsOldest

-- what the flow does with a value
abbrev pub kept_emit_case : Kept → EmitCase
kept_emit_case s =
    if (present s.lags == 0) || (not (is_kept_blocked s) && nat_lt 0 (kept_capacity s)) then emits.Appends
    else (if is_kept_blocked s then kept_when_blocked s.config.overflow else emits.Offers)

-- the caller whose value is offered: one that some subscriber has not received
abbrev pub offering : Kept → Option ℕ
offering s = if most_lag s.lags == 0 then None else s.offered

-- the caller is the one whose value is offered
abbrev pub is_offered_by : ℕ → Option ℕ → Bool
is_offered_by caller None = false
is_offered_by caller (Some other) = other == caller

-- a value of the caller is in the queue
abbrev pub is_in_queue : ℕ → List Held → Bool
is_in_queue caller = list_any (λ held. held.caller == caller)

-- the caller's `emit` waits
abbrev pub is_caller_waiting : ℕ → Kept → Bool
is_caller_waiting caller s = is_offered_by caller (offering s) || is_in_queue caller s.queue

-- the last `count` values
abbrev pub last_values : ℕ → List ℕ → List ℕ
last_values count values = drop (length values - count) values

-- the replay cache
abbrev pub kept_cache : Kept → List ℕ
kept_cache s = last_values s.cached s.values

-- the emitted value that a subscriber with this lag receives next
abbrev pub value_at : ℕ → List ℕ → Option ℕ
value_at lag values = slice_get (last_values lag values) 0

-- how many emitted values a new subscriber has to receive: those of the cache, or the offered one
abbrev pub lag_at_first : ℕ → Option ℕ → ℕ
lag_at_first cached None = cached
lag_at_first cached (Some caller) = 1

-- how many emitted values a new subscriber has to receive
abbrev pub first_lag : Kept → ℕ
first_lag s = lag_at_first s.cached (offering s)

-- ---- changes

-- the lag with one more value to receive, and at most `most`
abbrev pub raised : ℕ → Option ℕ → Option ℕ
raised most None = None
raised most (Some lag) = Some (min (lag + 1) most)

-- the lag of a subscriber that has no emitted value to receive
abbrev pub cleared : Option ℕ → Option ℕ
cleared None = None
cleared (Some lag) = Some 0

-- the state with this lag of the caller
abbrev pub with_lag : ℕ → Option ℕ → Kept → Kept
with_lag caller lag s = record s { lags = slice_set s.lags caller lag }

-- the state with these own values of the caller
abbrev pub with_own_kept : ℕ → List ℕ → Kept → Kept
with_own_kept caller own s = record s { owns = slice_set s.owns caller own }

-- the caller's value is emitted; without a buffer it is offered to the subscribers
abbrev pub append_kept : ℕ → ℕ → Kept → Kept
append_kept caller v s = record s {
  values = s.values ++ v ∷ [];
  cached = min (s.cached + 1) s.config.replay;
  lags = map (raised (kept_window s)) s.lags;
  offered = if kept_capacity s == 0 then Some caller else None;
}

-- queued values are emitted in order until the flow is blocked
abbrev pub admit_kept : Kept → List Held → Kept
admit_kept s [] = record s { queue = [] }
admit_kept s (held ∷ queue) = if is_kept_blocked s then record s { queue = held ∷ queue } else admit_kept (append_kept held.caller held.value s) queue

-- admits waiting values while there is room
abbrev pub settle_kept : Kept → Kept
settle_kept s = admit_kept s s.queue

-- the state without the values that can be neither received nor replayed, and without an offer that no subscriber has still to
-- receive
abbrev pub trim : Kept → Kept
trim s = record s { values = last_values (max (most_lag s.lags) s.cached) s.values; offered = offering s }

-- the value goes to the end of the queue
abbrev pub hold : ℕ → ℕ → Kept → Kept
hold caller v s = record s { queue = s.queue ++ record { caller = caller; value = v } ∷ [] }

-- the state after an `emit`, by its case
abbrev pub emit_in_kept : EmitCase → ℕ → ℕ → Kept → Kept
emit_in_kept emits.Appends caller v s = append_kept caller v s
emit_in_kept emits.Offers caller v s = append_kept caller v s
emit_in_kept emits.Queues caller v s = hold caller v s
emit_in_kept emits.DropsLatest caller v s = s
emit_in_kept emits.DropsOldest caller v s = append_kept caller v s

-- the state after a `try_emit`, by its case
abbrev pub try_emit_in_kept : EmitCase → ℕ → ℕ → Kept → Kept
try_emit_in_kept emits.Appends caller v s = append_kept caller v s
try_emit_in_kept emits.Offers caller v s = s
try_emit_in_kept emits.Queues caller v s = s
try_emit_in_kept emits.DropsLatest caller v s = s
try_emit_in_kept emits.DropsOldest caller v s = append_kept caller v s

-- the caller's value is withdrawn: subscribers that have not received an offered one miss it, and a queued one is dropped
abbrev pub withdraw_kept : ℕ → Kept → Kept
withdraw_kept caller s =
    if is_offered_by caller (offering s) then record s { lags = map cleared s.lags }
    else record s { queue = filter (λ held. not (held.caller == caller)) s.queue }

-- the caller's `emit` is cancelled, if it waits
abbrev pub cancel_kept : ℕ → Kept → Kept
cancel_kept caller s = if is_caller_waiting caller s then settle_kept (withdraw_kept caller s) else s

-- the first of the own values, or the next emitted one if none is left
abbrev pub receive_by : ℕ → List ℕ → Option ℕ → Kept → Kept
receive_by caller (v ∷ own) lag s = with_own_kept caller own s
receive_by caller [] None s = s
receive_by caller [] (Some lag) s = if lag == 0 then s else settle_kept (with_lag caller (Some (lag - 1)) s)

-- the caller receives its next value
abbrev pub receive : ℕ → Kept → Kept
receive caller s = receive_by caller (own_left caller s.owns) (kept_of caller s.lags) s

-- ---- answers

-- an answer of the flow itself
pub data OwnAnswer : Type 0 where
  done : OwnAnswer
  received : ℕ → OwnAnswer
  tested : Bool → OwnAnswer
  nothing : OwnAnswer
  counted : ℕ → OwnAnswer
  cached : List ℕ → OwnAnswer

-- the lists are the same
abbrev pub same_values : List ℕ → List ℕ → Bool
same_values [] [] = true
same_values (v ∷ vs) (w ∷ ws) = (v == w) && same_values vs ws
same_values _ _ = false

-- the recorded answer is the flow's own, or says as much of it as is known
abbrev pub same_answer : OwnAnswer → SharedAnswer → Bool
same_answer done answer.Done = true
same_answer (received v) (answer.Value w) = v == w
same_answer (received v) answer.SomeValue = true
same_answer (tested b) (answer.Truth c) = if b then c else not c
same_answer nothing answer.Empty = true
same_answer (counted m) (answer.Number n) = m == n
same_answer (cached vs) (answer.Values ws) = same_values vs ws.now
same_answer _ _ = false

-- the own answer is the one that was recorded, if one was
abbrev pub agrees : Option OwnAnswer → Option SharedAnswer → Bool
agrees None written = false
agrees (Some own) None = true
agrees (Some own) (Some a) = same_answer own a

-- done, if the call may be made here
abbrev pub done_if : Bool → Option OwnAnswer
done_if may = if may then Some done else None

-- the answer of a `try_emit`, by its case
abbrev pub try_emit_answer : EmitCase → Bool
try_emit_answer emits.Appends = true
try_emit_answer emits.Offers = false
try_emit_answer emits.Queues = false
try_emit_answer emits.DropsLatest = true
try_emit_answer emits.DropsOldest = true

-- the answer of a `next` that finds this value, or none
abbrev pub emitted_answer : Option ℕ → OwnAnswer
emitted_answer None = nothing
emitted_answer (Some v) = received v

-- the first of the own values, or the next emitted one if none is left
abbrev pub next_value : List ℕ → ℕ → List ℕ → Option ℕ
next_value (v ∷ own) lag values = Some v
next_value [] lag values = value_at lag values

-- the answer of a `next`, None for a caller that is not subscribed
abbrev pub next_answer : List ℕ → Option ℕ → List ℕ → Option OwnAnswer
next_answer own None values = None
next_answer own (Some lag) values = Some (emitted_answer (next_value own lag values))

-- the flow's own answer to a caller, if the caller may make the call
abbrev pub own_answer : ℕ → SharedOperation → Kept → Option OwnAnswer
own_answer caller (operation.TryEmit v) s = Some (tested (try_emit_answer (kept_emit_case s)))
own_answer caller (operation.Emit v) s = done_if (not (is_caller_waiting caller s))
own_answer caller (operation.EmitOrNot v) s = done_if (not (is_caller_waiting caller s))
own_answer caller operation.EmitReturned s = done_if (not (is_caller_waiting caller s))
own_answer caller operation.EmitCancelled s = Some done
own_answer caller (operation.Subscribe own) s = done_if (not (is_some (kept_of caller s.lags)))
own_answer caller operation.Next s = next_answer (own_left caller s.owns) (kept_of caller s.lags) s.values
own_answer caller operation.Unsubscribe s = done_if (is_some (kept_of caller s.lags))
own_answer caller operation.ReplayCache s = Some (cached (kept_cache s))
own_answer caller operation.ResetReplayCache s = Some done
own_answer caller operation.SubscriptionCount s = Some (counted (present s.lags))

-- ---- steps

-- the state after a call
abbrev pub made_kept : ℕ → SharedOperation → Kept → Kept
made_kept caller (operation.TryEmit v) s = try_emit_in_kept (kept_emit_case s) caller v s
made_kept caller (operation.Emit v) s = emit_in_kept (kept_emit_case s) caller v s
made_kept caller (operation.EmitOrNot v) s = emit_in_kept (kept_emit_case s) caller v s
made_kept caller operation.EmitReturned s = s
made_kept caller operation.EmitCancelled s = cancel_kept caller s
made_kept caller (operation.Subscribe own) s = with_own_kept caller own.now (with_lag caller (Some (first_lag s)) s)
made_kept caller operation.Next s = receive caller s
made_kept caller operation.Unsubscribe s = settle_kept (with_own_kept caller [] (with_lag caller None s))
made_kept caller operation.ReplayCache s = s
made_kept caller operation.ResetReplayCache s = record s { cached = 0 }
made_kept caller operation.SubscriptionCount s = s

-- the state after a recorded call, None if its answer is not the flow's own
abbrev pub stepped : Kept → ℕ → SharedEntry → Option Kept
stepped s caller entry =
    if agrees (own_answer caller entry.operation s) entry.answer then Some (trim (made_kept caller entry.operation s)) else None

-- an `emit` that was cancelled may not have begun
abbrev pub may_skip_operation : SharedOperation → Bool
may_skip_operation (operation.EmitOrNot v) = true
may_skip_operation _ = false

-- the call may have done nothing
abbrev pub may_skip : SharedEntry → Bool
may_skip entry = may_skip_operation entry.operation

-- ---- words

-- the lag that words encode
abbrev pub lag_in : List ℕ → Option ℕ
lag_in words = maybe_of (slice_index words 0)

-- the queued value that words encode, and its emitter
abbrev pub held_in : List ℕ → Held
held_in words = record { caller = slice_index words 0; value = number_in_words (drop 1 words) }

-- the own first values that words encode, after how many there are
abbrev pub own_values_in : List ℕ → List ℕ
own_values_in words = parts_in_words number_in_words (drop 2) (slice_index words 0) (drop 1 words)

-- the words after those of own first values
abbrev pub own_others : List ℕ → List ℕ
own_others words = drop (1 + 2 * slice_index words 0) words

-- The state that words encode: how many values the cache has, the caller whose value is offered, how many values there are and how
-- many are queued, and then the lags, the values, the queued ones and the own first values.
abbrev pub read_kept : Kept → List ℕ → Kept
read_kept s words =
    let callers = length s.lags in
    let values = drop (4 + callers) words in
    let queue = drop (2 * slice_index words 2) values in
    record {
      config = s.config;
      values = parts_in_words number_in_words (drop 2) (slice_index words 2) values;
      cached = slice_index words 0;
      lags = parts_in_words lag_in (drop 1) callers (drop 4 words);
      owns = parts_in_words own_values_in own_others callers (drop (3 * slice_index words 3) queue);
      queue = parts_in_words held_in (drop 3) (slice_index words 3) queue;
      offered = maybe_of (slice_index words 1);
    }
