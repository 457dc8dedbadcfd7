-- How recorded calls of a state flow become events of a history of the documented state flow. Begin with `ExplainsState`.
use Rattle.std.specs.Prelude.{◌≡◌, ◌⊎◌, ℕ, true, List, [], ◌∷◌, Option, Some, None}
use Rattle.flow_law.specs.declared.outcome.Next.TheVariants as next
use Rattle.flow_law.specs.declared.call.StateCall.{StateCall}
use Rattle.flow_law.specs.declared.call.StateCall.TheVariants as call
use Rattle.flow_law.specs.declared.call.StateReply.{StateReply}
use Rattle.flow_law.specs.declared.call.StateReply.TheVariants as reply
use Rattle.flow_law.specs.declared.states.StateFlowState.{StateFlowState}
use Rattle.flow_law.specs.history.Growth.{event}
use Rattle.flow_law.specs.history.Promise.{said}
use Rattle.flow_law.specs.history.History.{subscriber, Owner, owner_of, owners_all}
use Rattle.flow_law.specs.flow.StateFlow.{StateHistory, state_flow, first_state_flow, last_got_by, state_after_all}
use Rattle.flow_check.specs.declared.state_calls.StateOperation.{StateOperation}
use Rattle.flow_check.specs.declared.state_calls.StateOperation.TheVariants as operation
use Rattle.flow_check.specs.declared.state_calls.StateAnswer.{StateAnswer}
use Rattle.flow_check.specs.declared.state_calls.StateAnswer.TheVariants as answer
use Rattle.flow_check.specs.declared.state_calls.StateEntry.{StateEntry}
use Rattle.flow_check.specs.Records.{CallsByCaller}
use Rattle.flow_check.specs.Orders.{Explains}

-- the name of a caller's events, and of its subscription
abbrev pub caller_name : ℕ → List ℕ
caller_name caller = caller ∷ []

-- the call of an event; u is the number of the caller's subscription
abbrev pub state_call_of : ℕ → ℕ → StateOperation → StateCall ℕ
state_call_of caller u operation.Value = call.GetValue
state_call_of caller u (operation.Set v) = call.Set v
state_call_of caller u (operation.TryEmit v) = call.TryEmit v
state_call_of caller u (operation.CompareAndSet a b) = call.CompareAndSet a b
state_call_of caller u operation.Subscribe = call.Subscribe (caller_name caller)
state_call_of caller u operation.Next = call.TakeNext u
state_call_of caller u operation.Unsubscribe = call.Unsubscribe u
state_call_of caller u operation.SubscriptionCount = call.SubscriptionCount
state_call_of caller u operation.ReplayCache = call.ReplayCache

-- the reply of an event, if the answer is one to this operation
abbrev pub reply_of : ℕ → StateOperation → StateAnswer → Option (StateReply ℕ)
reply_of u operation.Value (answer.Value v) = Some (reply.Got v)
reply_of u (operation.Set v) answer.Done = Some reply.Done
reply_of u (operation.TryEmit v) (answer.Truth b) = Some (reply.Answered b)
reply_of u (operation.CompareAndSet a b) (answer.Truth c) = Some (reply.Answered c)
reply_of u operation.Subscribe answer.Done = Some (reply.Subscribed u)
reply_of u operation.Next (answer.Value v) = Some (reply.Received (next.Value v))
reply_of u operation.Next answer.Empty = Some (reply.Received next.Empty)
reply_of u operation.Unsubscribe answer.Done = Some (reply.Answered true)
reply_of u operation.SubscriptionCount (answer.Number n) = Some (reply.Counted n)
reply_of u operation.ReplayCache (answer.Value v) = Some (reply.Cached (v ∷ []))
reply_of u _ _ = None

-- the answer that was recorded, or any if none was
abbrev pub IsStateRecorded : Option StateAnswer → StateAnswer → Type 0
IsStateRecorded written a = (written ≡ None) ⊎ (written ≡ Some a)

-- in this state of the flow, with these owners of numbers, the caller has no subscription
abbrev pub HasNoStateSubscription : StateFlowState ℕ → List Owner → ℕ → Type 0
HasNoStateSubscription s owners caller = (u : ℕ) → owner_of (subscriber u) owners ≡ Some (caller_name caller) → last_got_by u s.subscribers ≡ None

-- a caller subscribes only while it has no subscription, so `next` and `unsubscribe` can be of only one
abbrev pub MayMakeState : StateFlowState ℕ → List Owner → ℕ → StateOperation → Type 0
MayMakeState s owners caller operation.Subscribe = HasNoStateSubscription s owners caller
MayMakeState s owners caller _ = Unit {0}

module _ (first : StateFlowState ℕ) where
  -- a recorded call is one event under the caller's name. Nothing looks at when its call began in the history: the record says when it did.
  pub record AddsStateEntry (h : StateHistory ℕ) (caller : ℕ) (entry : StateEntry) (part : StateHistory ℕ) : Type 0 where
    -- the number of the caller's subscription, if the call names one
    pub number : ℕ
    pub given : StateAnswer
    pub replied : StateReply ℕ
    pub is_recorded : IsStateRecorded entry.answer given
    pub is_reply : reply_of number entry.operation given ≡ Some replied
    pub is_event : part ≡ event (caller_name caller) 0 (said (state_call_of caller number entry.operation) replied) ∷ []
    pub may_make : MayMakeState (state_after_all first h) (owners_all state_flow [] h) caller entry.operation

-- a legal and owned history of some state flow with this initial value, with the flow's own numbers, explains the calls
abbrev pub ExplainsState : CallsByCaller StateEntry → ℕ → List ℕ → Type 0
ExplainsState callers initial order =
    (limit : ℕ) × Explains state_flow (AddsStateEntry (first_state_flow limit initial)) callers (first_state_flow limit initial) order
