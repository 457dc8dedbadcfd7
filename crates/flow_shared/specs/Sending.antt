-- What a call that waits for room does. `flow` is the flow: which one, and its configuration.
use Rattle.std.specs.Prelude.{◌⊎◌, ℕ, true, false, Result, Ok, Err}
use Rattle.flow_law.specs.declared.fault.Refused.{Refused}
use Rattle.flow_law.specs.declared.call.SharedCall.TheVariants as call
use Rattle.flow_law.specs.declared.call.SharedReply.TheVariants as reply
use Rattle.flow_law.specs.declared.outcome.Emit.TheVariants.{Done, Queued}
use Rattle.flow_law.specs.declared.states.SharedFlowState.{SharedFlowState}
use Rattle.flow_gate.specs.Tokens.{GateOrigin}
use Rattle.flow_shared.specs.declared.shared.sending.SendEnd.{SendEnd}
use Rattle.flow_shared.specs.declared.shared.sending.SendEnd.TheVariants as ended
use Rattle.flow_shared.specs.EmitFutures.{EmitsOnce}
use Rattle.flow_shared.specs.SharedReplies.{SharedToken, SharedCalls}

-- One `emit` of the value that was done, or one that was queued, and polls of that emission up to the one that found it done. A
-- refusal is one `emit` that was refused.
abbrev pub Sends : {T : Type 0} → GateOrigin (SharedFlowState T) → T → SharedToken T → Result (Unit {0}) (Refused T) → SharedToken T → Type 0
Sends flow v before (Ok none) after = EmitsOnce flow v before after
Sends flow v before (Err refused) after = SharedCalls flow before (call.Emit v) (reply.Refused refused.fault) after

module _ {T : Type 0} (flow : GateOrigin (SharedFlowState T)) where
  -- polls of the emission that found it waiting
  pub data FindsWaiting (e : ℕ) : SharedToken T → SharedToken T → Type 0 where
    not_polled : {t : SharedToken T} → FindsWaiting e t t
    one_more : {t u w : SharedToken T} → FindsWaiting e t u → SharedCalls flow u (call.Poll e) (reply.Tested true) w → FindsWaiting e t w

  -- A cancel when the time is up: it found the emission waiting, or done.
  abbrev pub SendEndsBy : ℕ → SharedToken T → SendEnd → SharedToken T → Type 0
  SendEndsBy e t ended.Done after = SharedCalls flow t (call.Cancel e) (reply.Tested false) after
  SendEndsBy e t ended.Cancelled after = SharedCalls flow t (call.Cancel e) (reply.Tested true) after

  -- the call that ends the wait: a poll that found the emission done, or a cancel
  abbrev pub LastsTo : ℕ → SharedToken T → SendEnd → SharedToken T → Type 0
  LastsTo e t ended.Done after = SharedCalls flow t (call.Poll e) (reply.Tested false) after ⊎ SendEndsBy e t ended.Done after
  LastsTo e t ended.Cancelled after = SendEndsBy e t ended.Cancelled after

  -- polls of the emission that found it waiting, and then a poll that did not, or a cancel
  abbrev pub EndsInTime : ℕ → SharedToken T → SendEnd → SharedToken T → Type 0
  EndsInTime e t how after = (u : SharedToken T) × FindsWaiting e t u × LastsTo e u how after

  -- one `emit` that was queued, and what ended its wait
  abbrev pub WaitsInTime : T → SharedToken T → SendEnd → SharedToken T → Type 0
  WaitsInTime v t how after = (e : ℕ) × (u : SharedToken T) × SharedCalls flow t (call.Emit v) (reply.Emitted (Queued e)) u × EndsInTime e u how after

  -- One `emit` of the value that was done, or one that was queued and whose wait ended this way. A refusal is one refused `emit`.
  abbrev pub SendsInTime : T → SharedToken T → Result SendEnd (Refused T) → SharedToken T → Type 0
  SendsInTime v t (Ok ended.Done) after = SharedCalls flow t (call.Emit v) (reply.Emitted Done) after ⊎ WaitsInTime v t ended.Done after
  SendsInTime v t (Ok ended.Cancelled) after = WaitsInTime v t ended.Cancelled after
  SendsInTime v t (Err refused) after = SharedCalls flow t (call.Emit v) (reply.Refused refused.fault) after
