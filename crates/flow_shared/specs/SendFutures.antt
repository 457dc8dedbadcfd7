-- What a send future does. Begin with `PollsSend`: one poll, by its answer.
use Rattle.std.specs.Prelude.{◌≡◌, ⊤, Bool, Option, Some, None, IfSome, Result, Ok, Err}
use Rattle.atomic_table.specs.Seated.{TableId}
use Rattle.futures.specs.declared.task.Poll.{Poll as Polled}
use Rattle.futures.specs.declared.task.Poll.TheVariants.{Ready, Pending}
use Rattle.flow_law.specs.declared.call.SharedCall.{SharedCall}
use Rattle.flow_law.specs.declared.call.SharedReply.{SharedReply}
use Rattle.flow_law.specs.declared.errors.NumberError.{NumberError}
use Rattle.flow_law.specs.declared.errors.Rejected.{Rejected}
use Rattle.flow_law.specs.declared.history.Said.{Said}
use Rattle.flow_law.specs.declared.states.SharedFlowState.{SharedFlowState}
use Rattle.flow_law.specs.history.HandleFaults.{number_fault}
use Rattle.flow_law.specs.history.Handles.{CallerOf}
use Rattle.flow_shared.specs.declared.emit_future.EmitStage.{EmitStage}
use Rattle.flow_shared.specs.declared.emit_future.EmitStage.TheVariants.{Ended}
use Rattle.flow_shared.specs.declared.emit_future.Sent.{Sent}
use Rattle.flow_shared.specs.declared.emit_future.Sent.TheVariants as sent
use Rattle.flow_shared.specs.Futures.{OneEach}
use Rattle.flow_shared.specs.EmitFutures.{Emitting, EmitPolls, FutureSends, CancelsAt, SaysSent, held_by_emit, token_after_emit, KeepsCount}

-- a caller of a shared flow
abbrev pub SharedCaller : Type 0 → Type 0
SharedCaller T = CallerOf TableId (SharedFlowState T) (Said (SharedCall T) (SharedReply T))

-- what a send future gives: the emitter, and the value if it was refused
abbrev pub SendGiven : Type 0 → Type 0
SendGiven T = SharedCaller T × Result ⊤ (Rejected T NumberError)

module _ {T A : Type 0} where
  -- what an emit future of the same emission gives
  abbrev pub sent_by : SendGiven T → Sent T A
  sent_by (caller, Ok done) = sent.Done caller.token
  sent_by (caller, Err rejected) = sent.Refused caller.token rejected.value (number_fault rejected.error)

  abbrev pub polled_by : Polled (SendGiven T) → Polled (Sent T A)
  polled_by (Ready given) = Ready (sent_by given)
  polled_by Pending = Pending

  -- the stage of the emission, which has ended if the future has nothing more to do
  abbrev pub stage_in : Option (Emitting T A) → EmitStage T A
  stage_in (Some s) = s.stage
  stage_in None = Ended

  -- One poll, by the emission before it, its answer and the emission after it: as of an emit future, and the emitter is of the
  -- same flow. A poll after `Ready` does nothing.
  abbrev pub PollsSend : Option (Emitting T A) → Polled (SendGiven T) → Option (Emitting T A) → Type 0
  PollsSend (Some old) Pending (Some new) = (new.flow ≡ old.flow) × EmitPolls old.flow old.stage Pending new.stage
  PollsSend (Some old) (Ready given) None = (given.0.flow ≡ old.flow) × EmitPolls old.flow old.stage (Ready (sent_by given)) Ended
  PollsSend None Pending None = ⊤
  PollsSend _ _ _ = ⊥

  -- each poll is busy or makes one call, through the one token of the emission
  abbrev pub SendsOnce : Option (Emitting T A) → Polled (SendGiven T) → Option (Emitting T A) → Type 0
  SendsOnce old polled new = IfSome old (λ s. OneEach SaysSent s.flow (held_by_emit s.stage) (polled_by polled) (token_after_emit (polled_by polled) (stage_in new)))

  -- all polls of a future make one `emit` at most
  abbrev pub KeepsSendCount : Option (Emitting T A) → Polled (SendGiven T) → Option (Emitting T A) → Type 0
  KeepsSendCount old polled new = IfSome old (λ s. KeepsCount s.stage (polled_by polled) (stage_in new))

  -- what the future may give: nothing more after `Ready`
  abbrev pub GivesSend : Option (Emitting T A) → SendGiven T → Type 0
  GivesSend (Some s) given = (given.0.flow ≡ s.flow) × FutureSends s.flow s.stage (sent_by given)
  GivesSend None given = ⊥

  -- a caller that cancels the future gets this: the emitter is of the same flow
  abbrev pub SendCancels : Option (Emitting T A) → Option (SharedCaller T × Bool) → Type 0
  SendCancels None back = back ≡ None
  SendCancels (Some s) (Some back) = (back.0.flow ≡ s.flow) × CancelsAt s.flow s.stage (Some (back.0.token, back.1))
  SendCancels (Some s) None = CancelsAt s.flow s.stage None
