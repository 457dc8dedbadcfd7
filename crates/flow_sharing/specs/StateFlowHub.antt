-- What each call of a sharing does to a state flow for several threads. Begin with `StateFlowHubDoes`.
use Rattle.std.specs.Prelude.{◌≡◌, ◌⊎◌, Bool, false, None, Result, Ok, Err}
use Rattle.flow_law.specs.declared.fault.FlowFault.{FlowFault}
use Rattle.flow_law.specs.declared.fault.FlowFault.TheVariants.{OutOfMemory, Busy}
use Rattle.flow_law.specs.declared.history.Said.{Said}
use Rattle.flow_law.specs.declared.call.StateCall.{StateCall}
use Rattle.flow_law.specs.declared.call.StateCall.TheVariants as call
use Rattle.flow_law.specs.declared.call.StateReply.{StateReply}
use Rattle.flow_law.specs.declared.call.StateReply.TheVariants as reply
use Rattle.flow_law.specs.declared.states.StateFlowState.{StateFlowState}
use Rattle.flow_law.specs.sharing.SharingCalls.{HubCall, HubAnswer, counts, puts, polls, cancels, resets}
use Rattle.flow_law.specs.flow.StateFlow.{state_flow}
use Rattle.flow_law.specs.history.Promise.{said, Token, CallsAtOnceIn}
use Rattle.flow_law.specs.history.Tokens.{Origin, IsBusy}
use Rattle.flow_sharing.specs.SeatedHub.{SeatedHub, OnlySends, CountDoes}

-- a hub of a state flow; `Id` identifies a flow
abbrev pub StateSeats : Type 0 → Type 0 → Type 0
StateSeats Id T = SeatedHub Id (StateFlowState T) (Said (StateCall T) (StateReply T)) T

module _ {Id T : Type 0} where
  -- a hub of a state flow by its flow, its two seats and its initial value: no emission of it waits
  abbrev pub state_seats : Origin Id (StateFlowState T) → (watching sending : Token Id (Said (StateCall T) (StateReply T))) → T → StateSeats Id T
  state_seats flow watching sending initial = record { flow = flow; watching = watching; sending = sending; emission = None; initial = initial }

  -- a put is a `set` under the sending seat; or it is Busy, and the seat lost one exchange
  abbrev pub SetDoes : T → StateSeats Id T → Result Bool FlowFault → StateSeats Id T → Type 0
  SetDoes x old (Ok waits) new =
      (waits ≡ false) × CallsAtOnceIn state_flow old.flow.first old.sending (call.Set x) reply.Done new.sending × OnlySends old new
  SetDoes x old (Err fault) new =
      (fault ≡ Busy) × IsBusy old.sending new.sending × OnlySends old new

  -- a reset is a `set` of the initial value under the sending seat; or it is Busy, and the seat lost one exchange; or memory
  -- for a copy of the value is refused, and nothing has changed
  abbrev pub ResetDoes : StateSeats Id T → Result (Unit {0}) FlowFault → StateSeats Id T → Type 0
  ResetDoes old (Ok done) new =
      CallsAtOnceIn state_flow old.flow.first old.sending (call.Set old.initial) reply.Done new.sending × OnlySends old new
  ResetDoes old (Err fault) new =
      ((fault ≡ Busy) × IsBusy old.sending new.sending × OnlySends old new) ⊎ ((fault ≡ OutOfMemory) × (new ≡ old))

  -- A count is one event under the watching seat. Polls and cancels do nothing, since nothing waits. A call is Busy exactly if its seat
  -- lost an exchange, and is then no event.
  abbrev pub StateFlowHubDoes : (c : HubCall T) → StateSeats Id T → HubAnswer c → StateSeats Id T → Type 0
  StateFlowHubDoes counts old answer new = CountDoes state_flow old answer new
  StateFlowHubDoes (puts x) old answer new = SetDoes x old answer new
  StateFlowHubDoes polls old answer new = (answer ≡ Ok false) × (new ≡ old)
  StateFlowHubDoes cancels old answer new = (answer ≡ Ok false) × (new ≡ old)
  StateFlowHubDoes resets old answer new = ResetDoes old answer new

-- the event of the sending seat that a call of the hub makes, if it makes one
abbrev pub StateSays : {T : Type 0} → T → HubCall T → Said (StateCall T) (StateReply T) → Type 0
StateSays initial counts what = ⊥
StateSays initial (puts x) what = what ≡ said (call.Set x) reply.Done
StateSays initial polls what = ⊥
StateSays initial cancels what = ⊥
StateSays initial resets what = what ≡ said (call.Set initial) reply.Done
