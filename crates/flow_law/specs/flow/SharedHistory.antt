-- Histories of a shared flow.
use Rattle.std.specs.Prelude.{◌≡◌, ℕ, IsTrue, Bool, true, false, not, ◌&&◌, ◌==◌, if◌then◌else◌, List, [], ◌∷◌, length, Option, Some, None, IsSome, Result, Ok, Err}
use Rattle.flow_law.specs.declared.config.Config.{Config}
use Rattle.flow_law.specs.declared.fault.FlowFault.{FlowFault}
use Rattle.flow_law.specs.declared.fault.FlowFault.TheVariants.{OutOfMemory}
use Rattle.flow_law.specs.declared.outcome.Emit.TheVariants.{Queued}
use Rattle.flow_law.specs.declared.outcome.Next.TheVariants.{Value}
use Rattle.flow_law.specs.declared.history.HistoryEvent.{HistoryEvent}
use Rattle.flow_law.specs.declared.history.Said.{Said}
use Rattle.flow_law.specs.declared.call.SharedCall.{SharedCall}
use Rattle.flow_law.specs.declared.call.SharedCall.TheVariants as call
use Rattle.flow_law.specs.declared.call.SharedReply.{SharedReply}
use Rattle.flow_law.specs.declared.call.SharedReply.TheVariants as reply
use Rattle.flow_law.specs.flow.SharedFlow.{SharedFlowState, Replied, first_state, config_fault, position_of, own_of}
use Rattle.flow_law.specs.flow.EmitRule.{emit_case, is_suspended}
use Rattle.flow_law.specs.flow.SharedStep as flow
use Rattle.flow_law.specs.history.History.{Number, subscriber, emission, Owner, Kind}
use Rattle.flow_law.specs.history.History as histories

-- what a call replies, and the state after it
pub record SharedOutcome (T : Type 0) : Type 0 where
  pub reply : SharedReply T
  pub after : SharedFlowState T

module _ {T : Type 0} where
  -- a result as a reply: `wrap` makes the reply of a call that is not refused
  abbrev pub reply_by : {R : Type 0} → (R → SharedReply T) → Result R FlowFault → SharedReply T
  reply_by wrap (Ok r) = wrap r
  reply_by wrap (Err fault) = reply.Refused fault

  -- an answer as an outcome
  abbrev pub outcome_of : {R : Type 0} → (R → SharedReply T) → Replied R T → SharedOutcome T
  outcome_of wrap a = record { reply = reply_by wrap a.reply; after = a.after }

  -- what the documented flow replies to a call, and the state after it
  abbrev pub answer_to : SharedCall T → SharedFlowState T → SharedOutcome T
  answer_to (call.TryEmit v) s = outcome_of reply.Tested (flow.try_emit v s)
  answer_to (call.Emit v) s = outcome_of reply.Emitted (flow.emit v s)
  answer_to (call.Poll e) s = outcome_of reply.Tested (flow.poll e s)
  answer_to (call.Cancel e) s = outcome_of reply.Tested (flow.cancel e s)
  answer_to (call.Subscribe name first) s = outcome_of reply.Subscribed (flow.subscribe first s)
  answer_to (call.TakeNext u) s = outcome_of reply.Received (flow.next u s)
  answer_to (call.Unsubscribe u) s = outcome_of reply.Tested (flow.unsubscribe u s)
  answer_to call.ReplayCache s = outcome_of reply.Cached (flow.replay_cache s)
  answer_to call.ResetReplayCache s = outcome_of (λ _. reply.Reset) (flow.reset_replay_cache s)
  answer_to call.SubscriptionCount s = outcome_of reply.Counted (flow.subscription_count s)

  -- whether the call was refused
  abbrev pub is_refused : SharedReply T → Bool
  is_refused (reply.Refused fault) = true
  is_refused _ = false

  -- the reply contains a value
  abbrev pub hands_out : SharedReply T → Bool
  hands_out (reply.Received (Value v)) = true
  hands_out (reply.Cached (v ∷ vs)) = true
  hands_out _ = false

  -- The call may be refused with `OutOfMemory` in this state: it queues a value, adds a subscriber, or copies a value of the flow.
  -- The buffer is allocated when the flow is made, so `try_emit` never needs memory.
  abbrev pub may_need_memory : SharedFlowState T → SharedCall T → Bool
  may_need_memory s (call.Emit v) = is_suspended (emit_case s)
  may_need_memory s (call.Subscribe name first) = true
  -- an own first value is moved out, not copied
  may_need_memory s (call.TakeNext u) = (length (own_of u s.subscribers) == 0) && hands_out (answer_to (call.TakeNext u) s).reply
  may_need_memory s call.ReplayCache = hands_out (answer_to call.ReplayCache s).reply
  may_need_memory s _ = false

  -- The flow may give this reply in this state: `OutOfMemory` to a call that may need memory and is not refused otherwise, and
  -- else only the documented reply.
  abbrev pub Replies : SharedFlowState T → SharedCall T → SharedReply T → Type 0
  Replies s c (reply.Refused OutOfMemory) = IsTrue (may_need_memory s c && not (is_refused (answer_to c s).reply))
  Replies s c r = r ≡ (answer_to c s).reply

  -- the state after a call with this reply; a refused call changes nothing
  abbrev pub after : SharedFlowState T → SharedCall T → SharedReply T → SharedFlowState T
  after s c r = if is_refused r then s else (answer_to c s).after

  -- the number that a token is given by a call, if one is: the subscription owns the subscriber's number, the caller that of a waiting
  -- emission
  abbrev pub gives : List ℕ → SharedCall T → SharedReply T → Option Owner
  gives name (call.Subscribe given first) (reply.Subscribed u) = Some (record { number = subscriber u; name = given })
  gives name (call.Emit v) (reply.Emitted (Queued e)) = Some (record { number = emission e; name = name })
  gives name _ _ = None

  -- the number that a call names
  abbrev pub speaks_of : SharedCall T → Option Number
  speaks_of (call.TakeNext u) = Some (subscriber u)
  speaks_of (call.Unsubscribe u) = Some (subscriber u)
  speaks_of (call.Poll e) = Some (emission e)
  speaks_of (call.Cancel e) = Some (emission e)
  speaks_of _ = None

  -- a shared flow may begin in this state: it is the first state of a configuration without a fault
  abbrev pub MayBegin : SharedFlowState T → Type 0
  MayBegin s = (s ≡ first_state s.config) × (config_fault s.config ≡ None)

  -- shared flows as a kind of flow
  abbrev pub shared_flow : Kind T (SharedFlowState T) (SharedCall T) (SharedReply T)
  shared_flow = record {
    MayBegin = MayBegin;
    Replies = Replies;
    after = after;
    gives = gives;
    speaks_of = speaks_of;
    HasSubscriber = λ u s. IsSome (position_of u s.subscribers);
    subscribe = λ name. call.Subscribe name [];
    take_next = call.TakeNext;
    unsubscribe = call.Unsubscribe;
    count = call.SubscriptionCount;
    replay_cache = call.ReplayCache;
    subscribed = reply.Subscribed;
    received = reply.Received;
    tested = reply.Tested;
    counted = reply.Counted;
    cached = reply.Cached;
    refused = reply.Refused;
  }

-- a history of a shared flow
abbrev pub History : Type 0 → Type 0
History T = List (HistoryEvent (Said (SharedCall T) (SharedReply T)))

module _ {T : Type 0} where
  -- the state after all events of a history
  abbrev pub shared_after_all : SharedFlowState T → History T → SharedFlowState T
  shared_after_all = histories.after_all shared_flow

  -- each reply of the history is one that a flow that begins in this state may give
  abbrev pub IsLegalFrom : SharedFlowState T → History T → Type 0
  IsLegalFrom = histories.IsLegal shared_flow

  -- the state that a history of a flow of this configuration leads to
  abbrev pub state_after : Config → History T → SharedFlowState T
  state_after config h = shared_after_all (first_state config) h

  -- a legal history of a flow of this configuration, of which a flow can be made
  abbrev pub IsLegalShared : Config → History T → Type 0
  IsLegalShared config h = (config_fault config ≡ None) × IsLegalFrom (first_state config) h

  -- a history that a flow of this configuration may have had: legal and owned
  abbrev pub IsSharedHistory : Config → History T → Type 0
  IsSharedHistory config = histories.IsHistory shared_flow (first_state config)
