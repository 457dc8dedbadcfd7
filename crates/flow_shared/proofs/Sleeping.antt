-- A caller sleeps only if there is something to wait for.
use Rattle.std.proofs.Common.{◌≡◌, ℕ, Bool, true, false, Result, Ok, Err}
use Rattle.flow_law.specs.declared.fault.FlowFault.{FlowFault}
use Rattle.flow_law.specs.declared.fault.Refused.{Refused}
use Rattle.flow_law.specs.declared.outcome.Emit.{Emit}
use Rattle.flow_law.specs.declared.outcome.Emit.TheVariants.{Done, Queued}
use Rattle.flow_law.specs.declared.outcome.Next.{Next}
use Rattle.flow_law.specs.declared.outcome.Next.TheVariants.{Value, Empty, Gone}
use Rattle.flow_law.specs.declared.call.SharedCall.TheVariants as call
use Rattle.flow_law.specs.declared.call.SharedReply.TheVariants as reply
use Rattle.flow_law.specs.declared.states.SharedFlowState.{SharedFlowState}
use Rattle.flow_law.specs.history.History.{Kind, replied}
use Rattle.flow_law.specs.flow.SharedHistory.{Replies, after}
use Rattle.flow_law.specs.history.Sleeping.{Sleeping}
use Rattle.flow_law.proofs.QueuedWaits.{queued_waits, polled_waits}
use Rattle.flow_law.proofs.SharedWaiting.{Lasting}
use Rattle.flow_law.proofs.SharedSleeping.{shared_sleeping}
use Rattle.flow_core.specs.SharedCore.{emit_reply}
use Rattle.flow_shared.specs.CoreCalls.{MaySleep, after_next, after_emit, after_polling}

-- a subscriber that found nothing still has nothing
pub next_sleeps : {T S C R : Type 0} (kind : Kind T S C R) (sleeping : Sleeping kind) (u : ℕ) (s : S) (answer : Result (Next T) FlowFault) → kind.Replies s (kind.take_next u) (replied kind kind.received answer)
    → MaySleep sleeping (after_next u answer) (kind.after s (kind.take_next u) (replied kind kind.received answer))
next_sleeps kind sleeping u s (Ok (Value v)) told = tt
next_sleeps kind sleeping u s (Ok Empty) told = sleeping.found u s told
next_sleeps kind sleeping u s (Ok Gone) told = tt
next_sleeps kind sleeping u s (Err fault) told = tt

module _ {T : Type 0} (s : SharedFlowState T) where
  pub emit_sleeps : (v : T) (answer : Result Emit (Refused T)) → Lasting s → Replies s (call.Emit v) (emit_reply answer) → MaySleep shared_sleeping (after_emit answer) (after s (call.Emit v) (emit_reply answer))
  emit_sleeps v (Ok Done) h told = tt
  emit_sleeps v (Ok (Queued e)) h told = queued_waits s v e h.sound told
  emit_sleeps v (Err refused) h told = tt

  pub poll_sleeps : (e : ℕ) (waits : Bool) → Replies s (call.Poll e) (reply.Tested waits) → MaySleep shared_sleeping (after_polling e waits) (after s (call.Poll e) (reply.Tested waits))
  poll_sleeps e true told = polled_waits s e told
  poll_sleeps e false told = tt
