-- What the calls of a shared flow for several threads return. `flow` is the flow: which one, and its configuration.
use Rattle.std.specs.Prelude.{◌≡◌, ◌⊎◌, ⊤, ℕ, Bool, true, false, Result, Ok, Err}
use Rattle.flow_law.specs.declared.fault.FlowFault.{FlowFault}
use Rattle.flow_law.specs.declared.fault.FlowFault.TheVariants.{OutOfMemory, Exhausted, Busy}
use Rattle.flow_law.specs.declared.history.Knowledge.{Knowledge}
use Rattle.flow_law.specs.declared.history.Said.{Said}
use Rattle.flow_law.specs.declared.fault.Refused.{Refused}
use Rattle.flow_law.specs.declared.outcome.Emit.{Emit}
use Rattle.flow_law.specs.declared.outcome.Emit.TheVariants.{Done, Queued}
use Rattle.flow_law.specs.declared.call.SharedCall.{SharedCall}
use Rattle.flow_law.specs.declared.call.SharedCall.TheVariants as call
use Rattle.flow_law.specs.declared.call.SharedReply.{SharedReply}
use Rattle.flow_law.specs.declared.call.SharedReply.TheVariants as reply
use Rattle.flow_law.specs.history.History.{IsEmission}
use Rattle.flow_law.specs.flow.SharedHistory.{shared_flow}
use Rattle.flow_law.specs.declared.states.SharedFlowState.{SharedFlowState}
use Rattle.flow_law.specs.history.Tokens.{IsBusy}
use Rattle.flow_gate.specs.Tokens.{GateToken, GateOrigin}
use Rattle.flow_shared.specs.declared.token.Emitted.{Emitted}
use Rattle.flow_shared.specs.declared.token.Emitted.TheVariants as emitted
use Rattle.flow_shared.specs.declared.token.Polled.{Polled}
use Rattle.flow_shared.specs.declared.token.Polled.TheVariants as polled
use Rattle.flow_shared.specs.declared.token.PolledNow.{PolledNow}
use Rattle.flow_shared.specs.declared.token.PolledNow.TheVariants as polled_now
use Rattle.flow_shared.specs.Calls.{GateNumbered}
use Rattle.flow_shared.specs.Calls as flows

-- a token of a shared flow
abbrev pub SharedToken : Type 0 → Type 0
SharedToken T = GateToken (Said (SharedCall T) (SharedReply T))

module _ {T : Type 0} (flow : GateOrigin (SharedFlowState T)) where
  -- the call adds one event, with this reply, to what the token has seen
  abbrev pub SharedCalls : SharedToken T → SharedCall T → SharedReply T → SharedToken T → Type 0
  SharedCalls = flows.Calls shared_flow flow

  -- `SharedCalls`, and no exchange was lost
  abbrev pub SharedCallsAtOnce : SharedToken T → SharedCall T → SharedReply T → SharedToken T → Type 0
  SharedCallsAtOnce = flows.CallsAtOnce shared_flow flow

  -- `SharedCalls`; if the call does not wait, no exchange was lost
  abbrev pub SharedCallsBy : Type 0 → SharedToken T → SharedCall T → SharedReply T → SharedToken T → Type 0
  SharedCallsBy at_once = flows.CallsBy shared_flow flow at_once

-- why an `emit` is refused
abbrev pub IsEmitFault : FlowFault → Type 0
IsEmitFault fault = (fault ≡ OutOfMemory) ⊎ (fault ≡ Exhausted)

-- ---- answers that give a token

module _ {T A : Type 0} where
  -- the reply that an answer stands for
  abbrev pub emitted_reply : Emitted T A → SharedReply T
  emitted_reply (emitted.Done t) = reply.Emitted Done
  emitted_reply (emitted.Queued e) = reply.Emitted (Queued e.number)
  emitted_reply (emitted.Refused t v fault) = reply.Refused fault

  -- the token that the caller then has
  abbrev pub emitted_token : Emitted T A → SharedToken T
  emitted_token (emitted.Done t) = t
  emitted_token (emitted.Queued e) = e.token
  emitted_token (emitted.Refused t v fault) = t

  -- the fault of a refused value is one of an `emit`
  abbrev pub EmitRefusedIfDue : Emitted T A → Type 0
  EmitRefusedIfDue (emitted.Refused t v fault) = IsEmitFault fault
  EmitRefusedIfDue _ = ⊤

  -- a refused emission returns its value
  abbrev pub HandsBack : T → Emitted T A → Type 0
  HandsBack value (emitted.Refused t v fault) = v ≡ value
  HandsBack value _ = ⊤

  -- the reply that the answer of a poll stands for
  abbrev pub polled_reply : Polled T A → SharedReply T
  polled_reply (polled.Done t) = reply.Tested false
  polled_reply (polled.Waiting e) = reply.Tested true

  -- the token that a poll gives back
  abbrev pub polled_token : Polled T A → SharedToken T
  polled_token (polled.Done t) = t
  polled_token (polled.Waiting e) = e.token

  -- an emission that still waits has this number
  abbrev pub KeepsNumber : ℕ → Polled T A → Type 0
  KeepsNumber number (polled.Waiting e) = e.number ≡ number
  KeepsNumber number _ = ⊤

  module _ (flow : GateOrigin (SharedFlowState T)) where
    -- the call is one event, with the reply and the token that the answer has; a refusal returns the value
    abbrev pub Emits : SharedToken T → T → Emitted T A → Type 0
    Emits before value answer = SharedCalls flow before (call.Emit value) (emitted_reply answer) (emitted_token answer) × HandsBack value answer

    -- a poll of an emission
    abbrev pub Polls : GateNumbered (Said (SharedCall T) (SharedReply T)) → Polled T A → Type 0
    Polls e answer = SharedCalls flow e.token (call.Poll e.number) (polled_reply answer) (polled_token answer) × KeepsNumber e.number answer

    -- ---- calls that wait, or do not: `at_once` says which

    -- an `emit`
    abbrev pub EmitsBy : Type 0 → SharedToken T → T → Emitted T A → Type 0
    EmitsBy at_once before value (emitted.Done t) = SharedCallsBy flow at_once before (call.Emit value) (reply.Emitted Done) t
    EmitsBy at_once before value (emitted.Queued e) = SharedCallsBy flow at_once before (call.Emit value) (reply.Emitted (Queued e.number)) e.token
    EmitsBy at_once before value (emitted.Refused t v Busy) = (v ≡ value) × (at_once × IsBusy before t)
    EmitsBy at_once before value (emitted.Refused t v fault) = (v ≡ value) × SharedCallsBy flow at_once before (call.Emit value) (reply.Refused fault) t

    -- a poll
    abbrev pub PollsBy : Type 0 → GateNumbered (Said (SharedCall T) (SharedReply T)) → PolledNow T A → Type 0
    PollsBy at_once e (polled_now.Done t) = SharedCallsBy flow at_once e.token (call.Poll e.number) (reply.Tested false) t
    PollsBy at_once e (polled_now.Waiting f) = (f.number ≡ e.number) × SharedCallsBy flow at_once e.token (call.Poll e.number) (reply.Tested true) f.token
    PollsBy at_once e (polled_now.Busy f) = (f.number ≡ e.number) × (at_once × IsBusy e.token f.token)

    -- ---- calls that do not wait: Busy exactly if one exchange was lost

    -- an `emit` that does not wait
    abbrev pub EmitsNow : SharedToken T → T → Emitted T A → Type 0
    EmitsNow before value (emitted.Done t) = SharedCallsAtOnce flow before (call.Emit value) (reply.Emitted Done) t
    EmitsNow before value (emitted.Queued e) = SharedCallsAtOnce flow before (call.Emit value) (reply.Emitted (Queued e.number)) e.token
    EmitsNow before value (emitted.Refused t v Busy) = (v ≡ value) × IsBusy before t
    EmitsNow before value (emitted.Refused t v fault) = (v ≡ value) × SharedCallsAtOnce flow before (call.Emit value) (reply.Refused fault) t

    -- a poll that does not wait
    abbrev pub PollsNow : GateNumbered (Said (SharedCall T) (SharedReply T)) → PolledNow T A → Type 0
    PollsNow e (polled_now.Done t) = SharedCallsAtOnce flow e.token (call.Poll e.number) (reply.Tested false) t
    PollsNow e (polled_now.Waiting f) = (f.number ≡ e.number) × SharedCallsAtOnce flow e.token (call.Poll e.number) (reply.Tested true) f.token
    PollsNow e (polled_now.Busy f) = (f.number ≡ e.number) × IsBusy e.token f.token

  -- the emission waits, or the flow was busy
  abbrev pub EmitIsWait : Emitted T A → Type 0
  EmitIsWait (emitted.Queued e) = ⊤
  EmitIsWait (emitted.Refused t v Busy) = ⊤
  EmitIsWait _ = ⊥

  -- the emission still waits, or the flow was busy
  abbrev pub PollIsWait : PolledNow T A → Type 0
  PollIsWait (polled_now.Done t) = ⊥
  PollIsWait _ = ⊤

module _ {T : Type 0} (flow : GateOrigin (SharedFlowState T)) where
  -- a reset that does not wait
  abbrev pub ResetsNow : SharedToken T → Result (Unit {0}) FlowFault → SharedToken T → Type 0
  ResetsNow before (Ok none) after = SharedCallsAtOnce flow before call.ResetReplayCache reply.Reset after
  ResetsNow before (Err fault) after = (fault ≡ Busy) × IsBusy before after

  -- the emission's wait has ended, and the answer says whether it waited
  abbrev pub Cancels : GateNumbered (Said (SharedCall T) (SharedReply T)) → SharedToken T × Bool → Type 0
  Cancels e ended = SharedCalls flow e.token (call.Cancel e.number) (reply.Tested ended.1) ended.0

  -- a cancel that does not wait
  abbrev pub CancelsNow : GateNumbered (Said (SharedCall T) (SharedReply T)) → Result (SharedToken T × Bool) (GateNumbered (Said (SharedCall T) (SharedReply T))) → Type 0
  CancelsNow e (Ok ended) = SharedCallsAtOnce flow e.token (call.Cancel e.number) (reply.Tested ended.1) ended.0
  CancelsNow e (Err back) = (back.number ≡ e.number) × IsBusy e.token back.token

-- if the emission waits, the history gave its number to the token
abbrev pub IsGivenIfQueued : {T : Type 0} → Knowledge (Said (SharedCall T) (SharedReply T)) → Result Emit (Refused T) → Type 0
IsGivenIfQueued k (Ok (Queued number)) = IsEmission shared_flow k number
IsGivenIfQueued k _ = ⊤
