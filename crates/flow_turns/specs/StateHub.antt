-- What each call of a sharing does to a `StateCore`. Begin with `StateHubDoes`.
use Rattle.std.specs.Prelude.{◌≡◌, Bool, false, Ok, Err}
use Rattle.flow_law.specs.declared.call.StateCall.{StateCall}
use Rattle.flow_law.specs.declared.call.StateCall.TheVariants as call
use Rattle.flow_law.specs.declared.call.StateReply.{StateReply}
use Rattle.flow_law.specs.declared.call.StateReply.TheVariants as reply
use Rattle.flow_law.specs.declared.fault.FlowFault.TheVariants.{OutOfMemory}
use Rattle.flow_law.specs.declared.states.StateFlowState.{StateFlowState}
use Rattle.flow_law.specs.declared.states.StateAndInitial.{StateAndInitial}
use Rattle.flow_law.specs.sharing.SharingCalls.{HubCall, HubAnswer, counts, puts, polls, cancels, resets}
use Rattle.flow_law.specs.flow.Standing.{StateConforms}
use Rattle.flow_turns.specs.declared.state_hub.StateHub.{StateHub}

module _ {T A : Type 0} where
  -- the core, as contracts see it: the documented state
  abbrev pub state_core_of : StateHub T A → StateFlowState T
  state_core_of hub = hub.core

  -- the value that a reset sets
  abbrev pub reset_value : StateHub T A → T
  reset_value hub = hub.initial

  -- the documented state flow, with the value that a reset sets
  abbrev pub state_flow_of : StateHub T A → StateAndInitial T
  state_flow_of hub = record { flow = hub.core; initial = hub.initial }

  -- nothing waits in a state flow
  abbrev pub never_waits : StateHub T A → Bool
  never_waits hub = false

  -- the call of the core has this reply, and the initial value does not change
  abbrev CallsCore : StateHub T A → StateCall T → StateReply T → StateHub T A → Type 0
  CallsCore old call reply new = StateConforms old.core call reply new.core × (new.initial ≡ old.initial)

  -- A put is a `set` of the core, and a reset a `set` of a copy of the initial value. Polls and cancels do nothing. Only a reset can be
  -- refused, with `OutOfMemory`.
  abbrev pub StateHubDoes : (c : HubCall T) → StateHub T A → HubAnswer c → StateHub T A → Type 0
  StateHubDoes counts old (Ok count) new = CallsCore old call.SubscriptionCount (reply.Counted count) new
  StateHubDoes counts old (Err fault) new = ⊥
  StateHubDoes (puts x) old answer new = CallsCore old (call.Set x) reply.Done new × (answer ≡ Ok false)
  StateHubDoes polls old answer new = (new ≡ old) × (answer ≡ Ok false)
  StateHubDoes cancels old answer new = (new ≡ old) × (answer ≡ Ok false)
  StateHubDoes resets old (Ok done) new = CallsCore old (call.Set old.initial) reply.Done new
  StateHubDoes resets old (Err fault) new = (new ≡ old) × (fault ≡ OutOfMemory)
