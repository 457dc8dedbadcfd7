use Rattle.std.proofs.Common.{ℕ, ◌<◌}
use Rattle.flow_check.specs.Records.{IsWellAt}
use Rattle.flow_check.proofs.record.fault_of.Given as goal

abbrev pub invariant-loop-index : goal.invariant-loop-index
invariant-loop-index g l = (k : ℕ) → k < l.index → IsWellAt l.callers l.caller k
