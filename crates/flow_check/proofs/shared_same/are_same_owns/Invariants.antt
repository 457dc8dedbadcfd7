use Rattle.std.proofs.Common.{◌≡◌, ℕ, ◌<◌}
use Rattle.flow_check.specs.SharedMachine.{own_left}
use Rattle.flow_check.proofs.shared_same.are_same_owns.Given as goal

abbrev pub invariant-loop-index : goal.invariant-loop-index
invariant-loop-index l = (k : ℕ) → k < l.index → own_left k l.fn.one ≡ own_left k l.fn.other
