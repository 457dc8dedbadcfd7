-- State flows, as scripts play on them.
-- `documented_state_reply` is the reply that the documented flow gives to a call, computed for whole numbers.
use Rattle.std.specs.Prelude.{◌≡◌, ℕ, ◌+◌, ℤ, Bool, true, false, List, [], ◌∷◌, length, if◌then◌else◌, Option, Some, None, is_some}
use Rattle.std.specs.Ordering.{int_eq}
use Rattle.flow_law.specs.declared.fault.FlowFault.TheVariants.{Exhausted, Unsupported}
use Rattle.flow_law.specs.declared.outcome.Next.TheVariants.{Value, Empty, Gone}
use Rattle.flow_law.specs.declared.call.StateCall.{StateCall}
use Rattle.flow_law.specs.declared.call.StateCall.TheVariants as call
use Rattle.flow_law.specs.declared.call.StateReply.{StateReply}
use Rattle.flow_law.specs.declared.call.StateReply.TheVariants as reply
use Rattle.flow_law.specs.declared.states.StateFlowState.{StateFlowState}
use Rattle.flow_law.specs.flow.StateFlow.{last_got_by, is_state_exhausted}
use Rattle.script_format.specs.declared.script.FlowStep.{FlowStep}
use Rattle.script_format.specs.declared.script.FlowStep.TheVariants as step
use Rattle.flow_script.specs.FlowMeaning.{Played}
use Rattle.flow_script.specs.Answers.{state_answer}

-- whether the value is the last one that a subscriber received
abbrev pub is_last : ℤ → Option ℤ → Bool
is_last value None = false
is_last value (Some last) = int_eq last value

-- what a subscriber receives, by the last value that it received
abbrev pub received_by_state : ℤ → Option (Option ℤ) → StateReply ℤ
received_by_state value None = reply.Received Gone
received_by_state value (Some last) = if is_last value last then reply.Received Empty else reply.Received (Value value)

-- the reply of the documented flow; whole numbers can be compared, so there is one
abbrev pub documented_state_reply : StateCall ℤ → StateFlowState ℤ → StateReply ℤ
documented_state_reply call.GetValue s = reply.Got s.value
documented_state_reply (call.Set x) s = reply.Done
documented_state_reply (call.TryEmit x) s = reply.Answered true
documented_state_reply (call.CompareAndSet expect update) s = reply.Answered (int_eq s.value expect)
documented_state_reply (call.Subscribe name) s = if is_state_exhausted s then reply.Refused Exhausted else reply.Subscribed (s.issued + 1)
documented_state_reply (call.TakeNext u) s = received_by_state s.value (last_got_by u s.subscribers)
documented_state_reply (call.Unsubscribe u) s = reply.Answered (is_some (last_got_by u s.subscribers))
documented_state_reply call.SubscriptionCount s = reply.Counted (length s.subscribers)
documented_state_reply call.ReplayCache s = reply.Cached (s.value ∷ [])
documented_state_reply call.ResetReplayCache s = reply.Refused Unsupported

-- the calls of the steps of state flows that not every kind of flow has
abbrev pub state_own_call : FlowStep → List (Option ℕ) → Option (StateCall ℤ)
state_own_call step.Reset emissions = Some call.ResetReplayCache
state_own_call step.Value emissions = Some call.GetValue
state_own_call (step.Set x) emissions = Some (call.Set x)
state_own_call (step.CompareAndSet expect update) emissions = Some (call.CompareAndSet expect update)
state_own_call _ emissions = None

-- how scripts play on state flows
abbrev pub plays_state : Played (StateFlowState ℤ) (StateCall ℤ) (StateReply ℤ)
plays_state = record { try_emit = call.TryEmit; own_call = state_own_call; reply_to = documented_state_reply; answer = state_answer }

-- a state core is the documented state itself
abbrev pub IsState : StateFlowState ℤ → StateFlowState ℤ → Type 0
IsState core s = core ≡ s
