-- What each call of a sharing does to a shared flow for several threads, with a lock or without one. Begin with `SharedFlowHubDoes`.
use Rattle.std.specs.Prelude.{◌≡◌, ℕ, Bool, true, false, Option, Some, None, Result, Ok, Err}
use Rattle.flow_law.specs.declared.fault.FlowFault.{FlowFault}
use Rattle.flow_law.specs.declared.fault.FlowFault.TheVariants.{Busy}
use Rattle.flow_law.specs.declared.history.Said.{Said}
use Rattle.flow_law.specs.declared.call.SharedCall.{SharedCall}
use Rattle.flow_law.specs.declared.call.SharedCall.TheVariants as call
use Rattle.flow_law.specs.declared.call.SharedReply.{SharedReply}
use Rattle.flow_law.specs.declared.call.SharedReply.TheVariants as reply
use Rattle.flow_law.specs.declared.outcome.Emit.TheVariants.{Done, Queued}
use Rattle.flow_law.specs.declared.states.SharedFlowState.{SharedFlowState}
use Rattle.flow_law.specs.flow.SharedHistory.{shared_flow}
use Rattle.flow_law.specs.sharing.SharingCalls.{HubCall, HubAnswer, counts, puts, polls, cancels, resets}
use Rattle.flow_law.specs.history.Promise.{said, Token, CallsAtOnceIn}
use Rattle.flow_law.specs.history.Tokens.{Origin, IsBusy}
use Rattle.flow_turns.specs.CoreHub.{still}
use Rattle.flow_sharing.specs.SeatedHub.{SeatedHub, OnlySends, CountDoes}

-- a token of a shared flow; `Id` identifies a flow
abbrev pub SenderToken : Type 0 → Type 0 → Type 0
SenderToken Id T = Token Id (Said (SharedCall T) (SharedReply T))

-- a hub of a shared flow
abbrev pub SharedSeats : Type 0 → Type 0 → Type 0
SharedSeats Id T = SeatedHub Id (SharedFlowState T) (Said (SharedCall T) (SharedReply T)) (Unit {0})

-- a hub of a shared flow by its flow, its two seats and the number of its emission: a reset sets nothing
abbrev pub shared_seats : {Id T : Type 0} → Origin Id (SharedFlowState T) → (watching sending : SenderToken Id T) → Option ℕ → SharedSeats Id T
shared_seats flow watching sending emission = record { flow = flow; watching = watching; sending = sending; emission = emission; initial = tt }

-- ---- the sending seat: by the state that its flow began with, the token before, the answer, and the token and the emission after

module _ {Id T : Type 0} (first : SharedFlowState T) where
  -- the token made this call with this reply, and lost no exchange
  abbrev Called : SenderToken Id T → SharedCall T → SharedReply T → SenderToken Id T → Type 0
  Called = CallsAtOnceIn shared_flow first

  -- one `emit`; or Busy, and the token lost an exchange
  abbrev pub PutBy : T → SenderToken Id T → Result Bool FlowFault → SenderToken Id T → Option ℕ → Type 0
  PutBy x before (Ok false) after emission = Called before (call.Emit x) (reply.Emitted Done) after × (emission ≡ None)
  PutBy x before (Ok true) after emission =
      (number : ℕ) × Called before (call.Emit x) (reply.Emitted (Queued number)) after × (emission ≡ Some number)
  PutBy x before (Err Busy) after emission = IsBusy before after × (emission ≡ None)
  PutBy x before (Err fault) after emission = Called before (call.Emit x) (reply.Refused fault) after × (emission ≡ None)

  -- one `poll` of the emission, if there is one; or Busy, and the token lost an exchange
  abbrev pub PollBy : Option ℕ → SenderToken Id T → Result Bool FlowFault → SenderToken Id T → Option ℕ → Type 0
  PollBy None before answer after emission = (answer ≡ Ok false) × (after ≡ before) × (emission ≡ None)
  PollBy (Some number) before (Ok waits) after emission =
      Called before (call.Poll number) (reply.Tested waits) after × (emission ≡ still waits number)
  PollBy (Some number) before (Err fault) after emission = (fault ≡ Busy) × IsBusy before after × (emission ≡ Some number)

  -- one `cancel` of the emission, if there is one; or Busy, and the token lost an exchange
  abbrev pub CancelBy : Option ℕ → SenderToken Id T → Result Bool FlowFault → SenderToken Id T → Option ℕ → Type 0
  CancelBy None before answer after emission = (answer ≡ Ok false) × (after ≡ before) × (emission ≡ None)
  CancelBy (Some number) before (Ok waited) after emission =
      Called before (call.Cancel number) (reply.Tested waited) after × (emission ≡ None)
  CancelBy (Some number) before (Err fault) after emission = (fault ≡ Busy) × IsBusy before after × (emission ≡ Some number)

  -- one `reset_replay_cache`; or Busy, and the token lost an exchange; no emission waits
  abbrev pub ResetBy : SenderToken Id T → Result (Unit {0}) FlowFault → SenderToken Id T → Option ℕ → Type 0
  ResetBy before (Ok done) after emission = Called before call.ResetReplayCache reply.Reset after × (emission ≡ None)
  ResetBy before (Err fault) after emission = (fault ≡ Busy) × IsBusy before after × (emission ≡ None)

-- ---- the hub

-- A count is one event under the watching seat. A put is one `emit` under the sending seat. If it queues, the hub keeps its number, and
-- polls and cancels are events of that number, under the same seat; without a number they do nothing. A reset is one `reset_replay_cache`
-- under the sending seat. A call is Busy exactly if its seat lost an exchange, and is then no event. The other seat does not change.
abbrev pub SharedFlowHubDoes : {Id T : Type 0} → (c : HubCall T) → SharedSeats Id T → HubAnswer c → SharedSeats Id T → Type 0
SharedFlowHubDoes counts old answer new = CountDoes shared_flow old answer new
SharedFlowHubDoes (puts x) old answer new = PutBy old.flow.first x old.sending answer new.sending new.emission × OnlySends old new
SharedFlowHubDoes polls old answer new = PollBy old.flow.first old.emission old.sending answer new.sending new.emission × OnlySends old new
SharedFlowHubDoes cancels old answer new = CancelBy old.flow.first old.emission old.sending answer new.sending new.emission × OnlySends old new
SharedFlowHubDoes resets old answer new = ResetBy old.flow.first old.sending answer new.sending new.emission × OnlySends old new

-- the event of the sending seat that a call of the hub makes, if it makes one
abbrev pub SharedSays : {T : Type 0} → Unit {0} → HubCall T → Said (SharedCall T) (SharedReply T) → Type 0
SharedSays initial counts what = ⊥
SharedSays initial (puts x) what = what.call ≡ call.Emit x
SharedSays initial polls what = (number : ℕ) × (what.call ≡ call.Poll number)
SharedSays initial cancels what = (number : ℕ) × (what.call ≡ call.Cancel number)
SharedSays initial resets what = what ≡ said call.ResetReplayCache reply.Reset
