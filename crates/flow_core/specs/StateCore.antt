-- What contracts see of a state core, and the results of its calls as the replies of a history.
use Rattle.std.specs.Prelude.{ℕ, map, Vec, Result, Option}
use Rattle.flow_law.specs.declared.fault.FlowFault.{FlowFault}
use Rattle.flow_law.specs.declared.outcome.Next.{Next}
use Rattle.flow_law.specs.declared.call.StateCall.TheVariants as call
use Rattle.flow_law.specs.declared.call.StateReply.{StateReply}
use Rattle.flow_law.specs.declared.call.StateReply.TheVariants as reply
use Rattle.flow_law.specs.history.History.{replied}
use Rattle.flow_law.specs.declared.states.StateFlowState.{StateFlowState}
use Rattle.flow_law.specs.declared.states.StateSubscriber.{StateSubscriber}
use Rattle.flow_law.specs.flow.Standing.{StateConforms}
use Rattle.flow_law.specs.flow.StateFlow.{state_flow}
use Rattle.flow_core.specs.declared.sub_id.SubId.{SubId}
use Rattle.flow_containers.specs.declared.members.Member.{Member}
use Rattle.flow_core.specs.declared.state.StateCore.TheInside.{Inside}
use Rattle.flow_core.specs.SubId.{number_of}

module _ {T : Type 0} where
  -- what `value` returned, as a reply
  abbrev pub value_reply : Result T FlowFault → StateReply T
  value_reply = replied state_flow reply.Got

  -- what `subscribe` returned, as a reply: a history has only the number
  abbrev pub state_subscribe_reply : Result SubId FlowFault → StateReply T
  state_subscribe_reply = replied state_flow (λ id. reply.Subscribed (number_of id))

  -- what `next` returned, as a reply
  abbrev pub state_next_reply : Result (Next T) FlowFault → StateReply T
  state_next_reply = replied state_flow reply.Received

  -- what one `next` of the subscriber of this number does
  abbrev pub StateCoreNexts : ℕ → StateFlowState T → Result (Next T) FlowFault → StateFlowState T → Type 0
  StateCoreNexts number old result new = StateConforms old (call.TakeNext number) (state_next_reply result) new

  -- what `replay_cache` returned, as a reply
  abbrev pub state_cache_reply : {A : Type 0} → Result (Vec T A) FlowFault → StateReply T
  state_cache_reply = replied state_flow (λ values. reply.Cached values.items)

  -- what `reset_replay_cache` returned, as a reply: `Ok` stands for a reply that no state flow gives to a reset
  abbrev pub reset_reply : Result (Unit {0}) FlowFault → StateReply T
  reset_reply = replied state_flow (λ none. reply.Done)

  -- a subscriber as the definitions have it: its number, and the value that it received last
  abbrev pub state_subscriber_of : Member (Option T) → StateSubscriber T
  state_subscriber_of member = record { number = member.number; last = member.row }

  -- a core's fields as a state of the documented flow
  abbrev pub state_fields_of : {A : Type 0} → Inside T A → StateFlowState T
  state_fields_of c = record {
    limit = c.limit;
    value = c.value;
    subscribers = map state_subscriber_of c.subscribers.members;
    issued = c.issued;
  }
