-- The answer of a hub's `put`. What a sharing requires of its hub is in `SharingCalls` of flow_law.
use Rattle.std.specs.Prelude.{Bool, Result, Ok, Err}
use Rattle.flow_law.specs.declared.fault.FlowFault.{FlowFault}
use Rattle.flow_law.specs.declared.fault.Refused.{Refused}

-- the answer of a put, without the value that a refusal returns
abbrev pub put_answer : {T : Type 0} → Result Bool (Refused T) → Result Bool FlowFault
put_answer (Ok waits) = Ok waits
put_answer (Err refusal) = Err refusal.fault
