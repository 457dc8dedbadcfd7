use Rattle.std.proofs.Common.{◌≡◌, length}
use Rattle.flow_check.specs.SharedMachine.{same_values}
use Rattle.flow_check.proofs.shared_same.same_values.Given as goal

abbrev pub invariant-loop-first : goal.invariant-loop-first
invariant-loop-first l = same_values l.left l.right ≡ same_values l.fn.one l.fn.other

abbrev pub decreases-loop-first : goal.decreases-loop-first
decreases-loop-first l = length l.left
