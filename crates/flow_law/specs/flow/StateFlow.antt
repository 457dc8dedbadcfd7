-- The documented state flow (`MutableStateFlow`) of one thread, and its histories.
use Rattle.std.specs.Prelude.{◌≡◌, ◌≢◌, ◌⊎◌, ℕ, ◌+◌, ◌==◌, Bool, true, false, not, if◌then◌else◌, List, [], ◌∷◌, ◌++◌, length, filter, Option, Some, None, IsSome, is_some}
use Rattle.flow_law.specs.declared.fault.FlowFault.TheVariants.{Exhausted, OutOfMemory, Unsupported}
use Rattle.flow_law.specs.declared.history.HistoryEvent.{HistoryEvent}
use Rattle.flow_law.specs.declared.history.Said.{Said}
use Rattle.flow_law.specs.declared.outcome.Next.TheVariants.{Value, Empty, Gone}
use Rattle.flow_law.specs.declared.call.StateCall.{StateCall}
use Rattle.flow_law.specs.declared.call.StateCall.TheVariants.{GetValue, Set, TryEmit, CompareAndSet, Subscribe, TakeNext, Unsubscribe, SubscriptionCount, ReplayCache, ResetReplayCache}
use Rattle.flow_law.specs.declared.call.StateReply.{StateReply}
use Rattle.flow_law.specs.declared.call.StateReply.TheVariants.{Done, Got, Answered, Subscribed, Received, Counted, Cached, Refused}
use Rattle.flow_law.specs.history.History.{Number, subscriber, Owner, Kind}
use Rattle.flow_law.specs.history.History as histories
pub use Rattle.flow_law.specs.declared.states.StateSubscriber.{StateSubscriber}
pub use Rattle.flow_law.specs.declared.states.StateFlowState.{StateFlowState}

module _ {T : Type 0} where
  -- the state before any call
  abbrev pub first_state_flow : ℕ → T → StateFlowState T
  first_state_flow limit first = record { limit = limit; value = first; subscribers = []; issued = 0 }

  -- the last value that the subscriber of this number got, if there is such a subscriber
  abbrev pub last_got_by : ℕ → List (StateSubscriber T) → Option (Option T)
  last_got_by number [] = None
  last_got_by number (r ∷ rs) = if r.number == number then Some r.last else last_got_by number rs

  -- the subscribers, with this as the last value that the one of this number got
  abbrev pub with_last : ℕ → T → List (StateSubscriber T) → List (StateSubscriber T)
  with_last number v [] = []
  with_last number v (r ∷ rs) = if r.number == number then record r { last = Some v } ∷ rs else r ∷ with_last number v rs

  -- the subscribers without the one of this number
  abbrev pub without_subscriber : ℕ → List (StateSubscriber T) → List (StateSubscriber T)
  without_subscriber number = filter (λ r. not (r.number == number))

  -- no number is left to issue
  abbrev pub is_state_exhausted : StateFlowState T → Bool
  is_state_exhausted s = s.issued == s.limit

  -- the state after a call that had this reply. A refused call changes nothing
  abbrev pub state_flow_after : StateFlowState T → StateCall T → StateReply T → StateFlowState T
  state_flow_after s (Set x) r = record s { value = x }
  state_flow_after s (TryEmit x) r = record s { value = x }
  state_flow_after s (CompareAndSet a b) (Answered true) = record s { value = b }
  state_flow_after s (Subscribe name) (Subscribed n) = record s { subscribers = s.subscribers ++ record { number = n; last = None } ∷ []; issued = n }
  state_flow_after s (TakeNext u) (Received (Value x)) = record s { subscribers = with_last u x s.subscribers }
  state_flow_after s (Unsubscribe u) (Answered _) = record s { subscribers = without_subscriber u s.subscribers }
  state_flow_after s _ _ = s

  -- what `next` replies, by the flow's value and the last value that the subscriber got
  abbrev pub Receives : T → Option (Option T) → StateReply T → Type 0
  Receives v None r = r ≡ Received Gone
  Receives v (Some last) r = ((last ≡ Some v) × (r ≡ Received Empty)) ⊎ ((last ≢ Some v) × (r ≡ Received (Value v)))

  -- r is the flow's reply to this call
  abbrev pub IsReply : StateFlowState T → StateCall T → StateReply T → Type 0
  IsReply s GetValue r = r ≡ Got s.value
  IsReply s (Set x) r = r ≡ Done
  IsReply s (TryEmit x) r = r ≡ Answered true
  IsReply s (CompareAndSet a b) r = ((s.value ≡ a) × (r ≡ Answered true)) ⊎ ((s.value ≢ a) × (r ≡ Answered false))
  IsReply s (Subscribe name) r = r ≡ (if is_state_exhausted s then Refused Exhausted else Subscribed (s.issued + 1))
  IsReply s (TakeNext u) r = Receives s.value (last_got_by u s.subscribers) r
  IsReply s (Unsubscribe u) r = r ≡ Answered (is_some (last_got_by u s.subscribers))
  IsReply s SubscriptionCount r = r ≡ Counted (length s.subscribers)
  IsReply s ReplayCache r = r ≡ Cached (s.value ∷ [])
  IsReply s ResetReplayCache r = r ≡ Refused Unsupported

  -- the reply is a refusal
  abbrev pub is_state_refused : StateReply T → Bool
  is_state_refused (Refused fault) = true
  is_state_refused _ = false

  -- there is such a subscriber, and this value is not the last that it got
  abbrev pub IsDue : T → Option (Option T) → Type 0
  IsDue v None = ⊥
  IsDue v (Some last) = last ≢ Some v

  -- the calls that may be refused with `OutOfMemory`: those that copy a value, and a new subscriber
  abbrev pub MayNeedMemory : StateFlowState T → StateCall T → Type 0
  MayNeedMemory s GetValue = Unit {0}
  MayNeedMemory s ReplayCache = Unit {0}
  MayNeedMemory s (TakeNext u) = IsDue s.value (last_got_by u s.subscribers)
  MayNeedMemory s (Subscribe name) = is_state_exhausted s ≡ false
  MayNeedMemory s _ = ⊥

  -- the flow may give this reply: `OutOfMemory` to a call that may need memory, and else only its one reply
  abbrev pub StateFlowReplies : StateFlowState T → StateCall T → StateReply T → Type 0
  StateFlowReplies s c (Refused OutOfMemory) = MayNeedMemory s c
  StateFlowReplies s c r = IsReply s c r

  -- the number that a token is given by a call, if one is: the subscription owns the subscriber's number
  abbrev pub state_flow_gives : List ℕ → StateCall T → StateReply T → Option Owner
  state_flow_gives name (Subscribe given) (Subscribed u) = Some (record { number = subscriber u; name = given })
  state_flow_gives name _ _ = None

  -- the number that a call names
  abbrev pub state_flow_speaks_of : StateCall T → Option Number
  state_flow_speaks_of (TakeNext u) = Some (subscriber u)
  state_flow_speaks_of (Unsubscribe u) = Some (subscriber u)
  state_flow_speaks_of _ = None

  -- a state flow may begin in this state: it is the first state of its limit and its value
  abbrev pub StateFlowMayBegin : StateFlowState T → Type 0
  StateFlowMayBegin s = s ≡ first_state_flow s.limit s.value

  -- state flows as a kind of flow
  abbrev pub state_flow : Kind T (StateFlowState T) (StateCall T) (StateReply T)
  state_flow = record {
    MayBegin = StateFlowMayBegin;
    Replies = StateFlowReplies;
    after = state_flow_after;
    gives = state_flow_gives;
    speaks_of = state_flow_speaks_of;
    HasSubscriber = λ u s. IsSome (last_got_by u s.subscribers);
    subscribe = Subscribe;
    take_next = TakeNext;
    unsubscribe = Unsubscribe;
    count = SubscriptionCount;
    replay_cache = ReplayCache;
    subscribed = Subscribed;
    received = Received;
    tested = Answered;
    counted = Counted;
    cached = Cached;
    refused = Refused;
  }

-- a history of a state flow
abbrev pub StateHistory : Type 0 → Type 0
StateHistory T = List (HistoryEvent (Said (StateCall T) (StateReply T)))

module _ {T : Type 0} where
  -- the state that a history leads to
  abbrev pub state_after_all : StateFlowState T → StateHistory T → StateFlowState T
  state_after_all = histories.after_all state_flow

  -- each reply of the history is one that a flow that begins in this state may give
  abbrev pub IsLegalState : StateFlowState T → StateHistory T → Type 0
  IsLegalState = histories.IsLegal state_flow

  -- a history that a flow that began in this state may have had: legal and owned
  abbrev pub IsStateHistory : StateFlowState T → StateHistory T → Type 0
  IsStateHistory = histories.IsHistory state_flow
