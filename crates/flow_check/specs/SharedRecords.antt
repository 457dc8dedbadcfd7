-- How recorded calls of a shared flow become events of a history of the documented shared flow. Begin with `ExplainsShared`.
use Rattle.std.specs.Prelude.{◌≡◌, ◌⊎◌, ℕ, true, false, List, [], ◌∷◌, Option, Some, None}
use Rattle.flow_law.specs.declared.config.Config.{Config}
use Rattle.flow_law.specs.declared.outcome.Emit.{Emit}
use Rattle.flow_law.specs.declared.outcome.Next.TheVariants as next
use Rattle.flow_law.specs.declared.call.SharedCall.{SharedCall}
use Rattle.flow_law.specs.declared.call.SharedCall.TheVariants as call
use Rattle.flow_law.specs.declared.call.SharedReply.{SharedReply}
use Rattle.flow_law.specs.declared.call.SharedReply.TheVariants as reply
use Rattle.flow_law.specs.declared.states.SharedFlowState.{SharedFlowState}
use Rattle.flow_law.specs.history.Growth.{event}
use Rattle.flow_law.specs.history.Promise.{said}
use Rattle.flow_law.specs.history.History.{subscriber, emission, Owner, owner_of, owners_all}
use Rattle.flow_law.specs.flow.SharedFlow.{first_state, position_of}
use Rattle.flow_law.specs.flow.SharedStep.{is_waiting}
use Rattle.flow_law.specs.flow.SharedHistory.{History, shared_flow, shared_after_all}
use Rattle.flow_check.specs.declared.shared_calls.SharedOperation.{SharedOperation}
use Rattle.flow_check.specs.declared.shared_calls.SharedOperation.TheVariants as operation
use Rattle.flow_check.specs.declared.shared_calls.SharedAnswer.{SharedAnswer}
use Rattle.flow_check.specs.declared.shared_calls.SharedAnswer.TheVariants as answer
use Rattle.flow_check.specs.declared.shared_calls.SharedEntry.{SharedEntry}
use Rattle.flow_check.specs.Records.{CallsByCaller}
use Rattle.flow_check.specs.Orders.{Explains}
use Rattle.flow_check.specs.StateRecords.{caller_name}

-- The call of an event; n is the number of the caller's subscription or emission, if the call names one. The return of an `emit` is
-- no event (`IsRecordedReply`), so the call that stands for it is of no history.
abbrev pub call_of : ℕ → ℕ → SharedOperation → SharedCall ℕ
call_of caller n (operation.TryEmit v) = call.TryEmit v
call_of caller n (operation.Emit v) = call.Emit v
call_of caller n (operation.EmitOrNot v) = call.Emit v
call_of caller n operation.EmitReturned = call.Poll n
call_of caller n operation.EmitCancelled = call.Cancel n
call_of caller n (operation.Subscribe own) = call.Subscribe (caller_name caller) own.now
call_of caller n operation.Next = call.TakeNext n
call_of caller n operation.Unsubscribe = call.Unsubscribe n
call_of caller n operation.ReplayCache = call.ReplayCache
call_of caller n operation.ResetReplayCache = call.ResetReplayCache
call_of caller n operation.SubscriptionCount = call.SubscriptionCount

-- the event has this reply, if the answer is one to this operation; the beginning of an `emit` does not record whether it waits
abbrev pub IsRecordedReply : ℕ → SharedOperation → SharedAnswer → SharedReply ℕ → Type 0
IsRecordedReply n (operation.TryEmit v) (answer.Truth b) r = r ≡ reply.Tested b
IsRecordedReply n (operation.Emit v) answer.Done r = (e : Emit) × (r ≡ reply.Emitted e)
IsRecordedReply n (operation.EmitOrNot v) answer.Done r = (e : Emit) × (r ≡ reply.Emitted e)
IsRecordedReply n operation.EmitCancelled answer.Done r = r ≡ reply.Tested true
IsRecordedReply n (operation.Subscribe own) answer.Done r = r ≡ reply.Subscribed n
IsRecordedReply n operation.Next (answer.Value v) r = r ≡ reply.Received (next.Value v)
IsRecordedReply n operation.Next answer.SomeValue r = (v : ℕ) × (r ≡ reply.Received (next.Value v))
IsRecordedReply n operation.Next answer.Empty r = r ≡ reply.Received next.Empty
IsRecordedReply n operation.Unsubscribe answer.Done r = r ≡ reply.Tested true
IsRecordedReply n operation.ReplayCache (answer.Values vs) r = r ≡ reply.Cached vs.now
IsRecordedReply n operation.ResetReplayCache answer.Done r = r ≡ reply.Reset
IsRecordedReply n operation.SubscriptionCount (answer.Number k) r = r ≡ reply.Counted k
IsRecordedReply n _ _ r = ⊥

-- the answer that was recorded, or any if none was
abbrev pub IsRecorded : Option SharedAnswer → SharedAnswer → Type 0
IsRecorded written a = (written ≡ None) ⊎ (written ≡ Some a)

-- in this state of the flow, with these owners of numbers, the caller has no subscription
abbrev pub HasNoSubscription : SharedFlowState ℕ → List Owner → ℕ → Type 0
HasNoSubscription s owners caller = (u : ℕ) → owner_of (subscriber u) owners ≡ Some (caller_name caller) → position_of u s.subscribers ≡ None

-- no emission of the caller waits
abbrev pub HasNoEmission : SharedFlowState ℕ → List Owner → ℕ → Type 0
HasNoEmission s owners caller = (e : ℕ) → owner_of (emission e) owners ≡ Some (caller_name caller) → is_waiting e s ≡ false

-- a caller subscribes only while it has no subscription, and emits only while none of its emissions waits
abbrev pub MayMake : SharedFlowState ℕ → List Owner → ℕ → SharedOperation → Type 0
MayMake s owners caller (operation.Emit v) = HasNoEmission s owners caller
MayMake s owners caller (operation.EmitOrNot v) = HasNoEmission s owners caller
MayMake s owners caller (operation.Subscribe own) = HasNoSubscription s owners caller
MayMake s owners caller _ = Unit {0}

-- The recorded call may add no event: the return or the cancel of an `emit` adds none if no emission of the caller waits, since the
-- `emit` was done before, or a cancelled one did not begin; the beginning of a cancelled `emit` may add none, since it may not have
-- begun.
abbrev pub MayAddNothing : SharedFlowState ℕ → List Owner → ℕ → SharedEntry → Type 0
MayAddNothing s owners caller entry = by entry.operation
  where
    by : SharedOperation → Type 0
    by operation.EmitReturned = IsRecorded entry.answer answer.Done × HasNoEmission s owners caller
    by operation.EmitCancelled = IsRecorded entry.answer answer.Done × HasNoEmission s owners caller
    by (operation.EmitOrNot v) = Unit {0}
    by _ = ⊥

module _ (first : SharedFlowState ℕ) where
  -- a part of a recorded call is one event under the caller's name. Nothing looks at when its call began in the history: the record says
  -- when it did.
  pub record AddsEvent (h : History ℕ) (caller : ℕ) (entry : SharedEntry) (part : History ℕ) : Type 0 where
    -- the number of the caller's subscription or emission, if the call names one
    pub number : ℕ
    pub given : SharedAnswer
    pub replied : SharedReply ℕ
    pub is_recorded : IsRecorded entry.answer given
    pub is_reply : IsRecordedReply number entry.operation given replied
    pub is_event : part ≡ event (caller_name caller) 0 (said (call_of caller number entry.operation) replied) ∷ []
    pub may_make : MayMake (shared_after_all first h) (owners_all shared_flow [] h) caller entry.operation

  -- a part of a recorded call is one event under the caller's name, or no event
  abbrev pub AddsEntry : History ℕ → ℕ → SharedEntry → History ℕ → Type 0
  AddsEntry h caller entry part =
      AddsEvent h caller entry part ⊎ ((part ≡ []) × MayAddNothing (shared_after_all first h) (owners_all shared_flow [] h) caller entry)

-- a legal and owned history of some shared flow of this configuration, with the flow's own numbers, explains the calls
abbrev pub ExplainsShared : CallsByCaller SharedEntry → Config → List ℕ → Type 0
ExplainsShared callers config order =
    (limit : ℕ) × Explains shared_flow (AddsEntry (first_state (record config { limit = limit }))) callers (first_state (record config { limit = limit })) order
