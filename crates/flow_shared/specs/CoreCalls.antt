-- What a call of a core gave, and what its caller then does among the callers that sleep. Begin with `MaySleep`.
use Rattle.std.specs.Prelude.{◌≡◌, ⊤, ℕ, Bool, true, false, Option, Some, None, Result, Ok, Err}
use Rattle.flow_law.specs.declared.fault.FlowFault.{FlowFault}
use Rattle.flow_law.specs.declared.fault.FlowFault.TheVariants.{Busy}
use Rattle.flow_law.specs.declared.fault.Refused.{Refused}
use Rattle.flow_law.specs.declared.outcome.Emit.{Emit}
use Rattle.flow_law.specs.declared.outcome.Emit.TheVariants.{Queued}
use Rattle.flow_law.specs.declared.outcome.Next.{Next}
use Rattle.flow_law.specs.declared.outcome.Next.TheVariants.{Empty}
use Rattle.flow_law.specs.declared.touch.Touch.{Touch}
use Rattle.flow_law.specs.history.History.{Kind}
use Rattle.flow_law.specs.history.Sleeping.{FindsNothing, Sleeping}
use Rattle.flow_shared.specs.declared.core_call.Made.{Made}
use Rattle.flow_shared.specs.declared.core_call.Then.{Then}
use Rattle.flow_shared.specs.declared.core_call.Then.TheVariants.{Leave, AwaitValue, AwaitEnd, Watch}
use Rattle.flow_shared.specs.declared.core_call.Watching.{Watching}
use Rattle.flow_shared.specs.declared.core_call.Watching.TheVariants.{Begins}

-- this answer, whom the call touched, and what the caller then does
abbrev pub made : {X : Type 0} → X → Touch → Then → Made X
made answer touches then_does = record { answer = answer; touches = touches; «then» = then_does }

-- ---- what the caller does after each kind of answer

-- a subscriber sleeps if it found nothing
abbrev pub after_next : {T : Type 0} → ℕ → Result (Next T) FlowFault → Then
after_next u (Ok Empty) = AwaitValue u
after_next u _ = Leave

-- an emitter sleeps if its emission waits
abbrev pub after_emit : {T : Type 0} → Result Emit (Refused T) → Then
after_emit (Ok (Queued e)) = AwaitEnd e
after_emit _ = Leave

-- and goes on sleeping while it waits
abbrev pub after_polling : ℕ → Bool → Then
after_polling e true = AwaitEnd e
after_polling e false = Leave

-- a count may change the watchers
abbrev pub after_counting : Option Watching → Then
after_counting (Some watching) = Watch watching
after_counting None = Leave

-- ---- callers that sleep

-- the caller sleeps
abbrev pub IsSleep : Then → Type 0
IsSleep (AwaitValue u) = ⊤
IsSleep (AwaitEnd e) = ⊤
IsSleep (Watch (Begins n)) = ⊤
IsSleep _ = ⊥

-- in this state there is something to wait for
abbrev pub MaySleep : {T S C R : Type 0} {kind : Kind T S C R} → Sleeping kind → Then → S → Type 0
MaySleep {kind = kind} sleeping (AwaitValue u) s = FindsNothing kind u s
MaySleep sleeping (AwaitEnd e) s = sleeping.waits e s ≡ true
MaySleep sleeping _ s = ⊤

-- nothing was received yet, or the flow was busy: the caller asks again
abbrev pub IsWait : {T : Type 0} → Result (Next T) FlowFault → Type 0
IsWait (Ok Empty) = ⊤
IsWait (Err Busy) = ⊤
IsWait _ = ⊥
