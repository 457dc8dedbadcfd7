-- What an emit future does. Begin with `EmitPolls`: one poll, by its answer. `flow` is the flow: which one, and its configuration.
use Rattle.std.specs.Prelude.{◌≡◌, ◌≢◌, ℕ, ◌+◌, ⊤, ◌⊎◌, Bool, true, false, List, [], ◌∷◌, Option, Some, None}
use Rattle.atomic_table.specs.Seated.{TableId}
use Rattle.futures.specs.declared.task.Poll.{Poll as Polled}
use Rattle.futures.specs.declared.task.Poll.TheVariants.{Ready, Pending}
use Rattle.flow_law.specs.declared.fault.FlowFault.TheVariants.{Busy}
use Rattle.flow_law.specs.declared.outcome.Emit.TheVariants.{Done, Queued}
use Rattle.flow_law.specs.declared.call.SharedCall.{SharedCall}
use Rattle.flow_law.specs.declared.call.SharedCall.TheVariants as call
use Rattle.flow_law.specs.declared.call.SharedReply.{SharedReply}
use Rattle.flow_law.specs.declared.call.SharedReply.TheVariants as reply
use Rattle.flow_law.specs.declared.states.SharedFlowState.{SharedFlowState}
use Rattle.flow_law.specs.history.Tokens.{IsBusy}
use Rattle.flow_gate.specs.Tokens.{GateOrigin}
use Rattle.flow_shared.specs.declared.emit_future.EmitStage.{EmitStage}
use Rattle.flow_shared.specs.declared.emit_future.EmitStage.TheVariants.{Fresh, Waiting, Ended}
use Rattle.flow_shared.specs.declared.emit_future.Sent.{Sent}
use Rattle.flow_shared.specs.declared.emit_future.Sent.TheVariants as sent
use Rattle.flow_shared.specs.EmitCounts.{emits_made}
use Rattle.flow_shared.specs.SharedReplies.{SharedToken, SharedCalls, SharedCallsAtOnce, IsEmitFault}

-- an emit future: its flow, and its stage
pub record Emitting (T A : Type 0) : Type 0 where
  pub flow : GateOrigin (SharedFlowState T)
  pub stage : EmitStage T A

module _ {T : Type 0} (flow : GateOrigin (SharedFlowState T)) where
  -- polls of the emission that found it waiting, by the tokens after each, and then one that did not
  abbrev pub EndsAfter : List (SharedToken T) → ℕ → SharedToken T → SharedToken T → Type 0
  EndsAfter [] e t after = SharedCalls flow t (call.Poll e) (reply.Tested false) after
  EndsAfter (u ∷ us) e t after = SharedCalls flow t (call.Poll e) (reply.Tested true) u × EndsAfter us e u after

  -- some polls find the emission waiting, and one finds it done
  abbrev pub EmitEnds : ℕ → SharedToken T → SharedToken T → Type 0
  EmitEnds e t after = (us : List (SharedToken T)) × EndsAfter us e t after

  -- one `emit` of the value and, if it was queued, polls of its emission up to the one that finds it done
  abbrev pub EmitsOnce : T → SharedToken T → SharedToken T → Type 0
  EmitsOnce v t after = SharedCalls flow t (call.Emit v) (reply.Emitted Done) after
      ⊎ ((e : ℕ) × (u : SharedToken T) × SharedCalls flow t (call.Emit v) (reply.Emitted (Queued e)) u × EmitEnds e u after)

module _ {T A : Type 0} where
  -- the future of this flow at this stage
  abbrev pub emitting_at : GateOrigin (SharedFlowState T) → EmitStage T A → Emitting T A
  emitting_at flow stage = record { flow = flow; stage = stage }

  -- the token that the future holds is of this flow
  abbrev pub HoldsOf : TableId → EmitStage T A → Type 0
  HoldsOf id (Fresh t v) = t.table_id ≡ id
  HoldsOf id (Waiting e) = e.token.table_id ≡ id
  HoldsOf id Ended = ⊤

  -- the token that the caller has at the end
  abbrev pub sent_token : Sent T A → SharedToken T
  sent_token (sent.Done t) = t
  sent_token (sent.Refused t v fault) = t

  -- the reply that ends the emission
  abbrev pub SaysSent : Sent T A → SharedReply T → Type 0
  SaysSent (sent.Done t) (reply.Emitted Done) = ⊤
  SaysSent (sent.Done t) (reply.Tested false) = ⊤
  SaysSent (sent.Refused t v fault) r = r ≡ reply.Refused fault
  SaysSent _ _ = ⊥

  -- the fault of a refused value is one of an `emit`
  abbrev pub SentRefusedIfDue : Sent T A → Type 0
  SentRefusedIfDue (sent.Done t) = ⊤
  SentRefusedIfDue (sent.Refused t v fault) = IsEmitFault fault

  -- the token that the future holds, and the call that it makes through it
  abbrev pub held_by_emit : EmitStage T A → Option (SharedToken T × SharedCall T)
  held_by_emit (Fresh t v) = Some (t, call.Emit v)
  held_by_emit (Waiting e) = Some (e.token, call.Poll e.number)
  held_by_emit Ended = None

  -- the token that the future holds
  abbrev pub token_in : EmitStage T A → Option (SharedToken T)
  token_in (Fresh t v) = Some t
  token_in (Waiting e) = Some e.token
  token_in Ended = None

  -- the token after a poll: the answer has it, or the future if the poll is pending
  abbrev pub token_after_emit : Polled (Sent T A) → EmitStage T A → Option (SharedToken T)
  token_after_emit (Ready s) stage = Some (sent_token s)
  token_after_emit Pending stage = token_in stage

  -- ---- at most one `emit`

  -- how many `emit`s the future will still make at most
  abbrev pub to_emit : EmitStage T A → ℕ
  to_emit (Fresh t v) = 1
  to_emit (Waiting e) = 0
  to_emit Ended = 0

  -- a poll does not change the sum of the `emit`s made and yet to make: all polls of a future make one `emit` at most
  abbrev pub KeepsCount : EmitStage T A → Polled (Sent T A) → EmitStage T A → Type 0
  KeepsCount old polled new = emits_made (token_after_emit polled new) + to_emit new ≡ emits_made (token_in old) + to_emit old

  -- the seat has made one more `emit`
  abbrev pub EmitsOne : SharedToken T → Sent T A → Type 0
  EmitsOne before s = emits_made (Some (sent_token s)) ≡ emits_made (Some before) + 1

  module _ (flow : GateOrigin (SharedFlowState T)) where
    -- One poll, by the stage before it, its answer and the stage after it. A busy poll has lost one exchange and keeps the stage;
    -- a poll after the end does nothing; any other poll makes one call, and is ready if the reply is no wait.
    abbrev pub EmitPolls : EmitStage T A → Polled (Sent T A) → EmitStage T A → Type 0
    EmitPolls (Fresh t v) Pending (Fresh u w) = (w ≡ v) × IsBusy t u
    EmitPolls (Fresh t v) Pending (Waiting e) = SharedCallsAtOnce flow t (call.Emit v) (reply.Emitted (Queued e.number)) e.token
    EmitPolls (Fresh t v) (Ready (sent.Done u)) Ended = SharedCallsAtOnce flow t (call.Emit v) (reply.Emitted Done) u
    EmitPolls (Fresh t v) (Ready (sent.Refused u w fault)) Ended = (w ≡ v) × (fault ≢ Busy) × SharedCallsAtOnce flow t (call.Emit v) (reply.Refused fault) u
    EmitPolls (Waiting e) Pending (Waiting f) = (f.number ≡ e.number) × (IsBusy e.token f.token ⊎ SharedCallsAtOnce flow e.token (call.Poll e.number) (reply.Tested true) f.token)
    EmitPolls (Waiting e) (Ready (sent.Done u)) Ended = SharedCallsAtOnce flow e.token (call.Poll e.number) (reply.Tested false) u
    EmitPolls Ended Pending Ended = ⊤
    EmitPolls _ _ _ = ⊥

    -- what the future may give
    abbrev pub FutureSends : EmitStage T A → Sent T A → Type 0
    FutureSends (Fresh t v) (sent.Done u) = EmitsOnce flow v t u
    FutureSends (Fresh t v) (sent.Refused u w fault) = (w ≡ v) × IsEmitFault fault × SharedCalls flow t (call.Emit v) (reply.Refused fault) u
    FutureSends (Waiting e) (sent.Done u) = EmitEnds flow e.number e.token u
    FutureSends _ _ = ⊥

  -- what the future may give; the token in it is of the future's flow
  abbrev pub GivesSent : Emitting T A → Sent T A → Type 0
  GivesSent f s = ((sent_token s).table_id ≡ f.flow.table_id) × FutureSends f.flow f.stage s

  -- what a caller gets that cancels the future at this stage: nothing after the end, the seat if nothing was emitted yet,
  -- and else what a cancel of the emission gives
  abbrev pub CancelsAt : GateOrigin (SharedFlowState T) → EmitStage T A → Option (SharedToken T × Bool) → Type 0
  CancelsAt flow (Fresh t v) back = back ≡ Some (t, true)
  CancelsAt flow (Waiting e) (Some back) = SharedCalls flow e.token (call.Cancel e.number) (reply.Tested back.1) back.0
  CancelsAt flow (Waiting e) None = ⊥
  CancelsAt flow Ended back = back ≡ None

  -- a caller that cancels the future gets this
  abbrev pub FutureCancels : Emitting T A → Option (SharedToken T × Bool) → Type 0
  FutureCancels f back = CancelsAt f.flow f.stage back
