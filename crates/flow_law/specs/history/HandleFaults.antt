-- The fault of a flow's own call that the error of a handle's call stands for.
use Rattle.std.specs.Prelude.{Result, Ok, Err}
use Rattle.flow_law.specs.declared.fault.FlowFault.{FlowFault}
use Rattle.flow_law.specs.declared.fault.FlowFault.TheVariants as fault
use Rattle.flow_law.specs.declared.fault.Refused.{Refused}
use Rattle.flow_law.specs.declared.errors.OutOfMemory.{OutOfMemory}
use Rattle.flow_law.specs.declared.errors.Exhausted.{Exhausted}
use Rattle.flow_law.specs.declared.errors.Busy.{Busy}
use Rattle.flow_law.specs.declared.errors.Unsupported.{Unsupported}
use Rattle.flow_law.specs.declared.errors.NumberError.{NumberError}
use Rattle.flow_law.specs.declared.errors.NumberError.TheVariants as number
use Rattle.flow_law.specs.declared.errors.EmitNowError.{EmitNowError}
use Rattle.flow_law.specs.declared.errors.EmitNowError.TheVariants as emit_now
use Rattle.flow_law.specs.declared.errors.TryNextError.{TryNextError}
use Rattle.flow_law.specs.declared.errors.TryNextError.TheVariants as try_next
use Rattle.flow_law.specs.declared.errors.Rejected.{Rejected}

-- the fault of calls that are refused only if they are out of memory
abbrev pub memory_fault : OutOfMemory → FlowFault
memory_fault e = fault.OutOfMemory

-- the fault of calls that are refused only if no number is left
abbrev pub limit_fault : Exhausted → FlowFault
limit_fault e = fault.Exhausted

-- the fault of calls that are refused only if another caller is inside
abbrev pub busy_fault : Busy → FlowFault
busy_fault e = fault.Busy

-- the fault of calls that a kind of flow does not have
abbrev pub unsupported_fault : Unsupported → FlowFault
unsupported_fault e = fault.Unsupported

-- the fault of calls that take a number and memory
abbrev pub number_fault : NumberError → FlowFault
number_fault number.OutOfMemory = fault.OutOfMemory
number_fault number.Exhausted = fault.Exhausted

-- the fault of `emit_now`
abbrev pub emit_now_fault : EmitNowError → FlowFault
emit_now_fault emit_now.OutOfMemory = fault.OutOfMemory
emit_now_fault emit_now.Exhausted = fault.Exhausted
emit_now_fault emit_now.Busy = fault.Busy

-- the fault of `try_next`
abbrev pub try_next_fault : TryNextError → FlowFault
try_next_fault try_next.OutOfMemory = fault.OutOfMemory
try_next_fault try_next.Busy = fault.Busy

module _ {A E : Type 0} (fault_of : E → FlowFault) where
  -- the answer of the flow's own call that a handle's answer stands for
  abbrev pub answer_by : Result A E → Result A FlowFault
  answer_by (Ok a) = Ok a
  answer_by (Err e) = Err (fault_of e)

  -- the answer of the flow's own call, if a refusal returns the value
  abbrev pub handed_by : {V : Type 0} → Result A (Rejected V E) → Result A (Refused V)
  handed_by (Ok a) = Ok a
  handed_by (Err r) = Err (record { value = r.value; fault = fault_of r.error })
