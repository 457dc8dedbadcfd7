use Rattle.std.proofs.Common.{ℕ, ◌<◌}
use Rattle.flow_check.specs.Records.{IsWellAt}
use Rattle.flow_check.proofs.record.first_fault.Given as goal

abbrev pub invariant-loop-caller : goal.invariant-loop-caller
invariant-loop-caller g l = (caller : ℕ) → caller < l.caller → (k : ℕ) → IsWellAt l.callers caller k
