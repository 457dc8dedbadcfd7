use Rattle.std.proofs.Common.{◌≡◌, length}
use Rattle.flow_check.proofs.same.are_same.Given as goal

abbrev pub invariant-loop-first : goal.invariant-loop-first
invariant-loop-first g l = l.left ≡ l.right → l.fn.one ≡ l.fn.other

abbrev pub decreases-loop-first : goal.decreases-loop-first
decreases-loop-first g l = length l.left
