use Rattle.std.proofs.Common.{◌≡◌, ◌++◌, length}
use Rattle.flow_check.specs.Moments.{known_row}
use Rattle.flow_check.proofs.moments.known_row.Given as goal

abbrev pub invariant-loop-first : goal.invariant-loop-first
invariant-loop-first g l = l.known.items ++ known_row l.fn.cut l.rest ≡ known_row l.fn.cut l.fn.calls

abbrev pub decreases-loop-first : goal.decreases-loop-first
decreases-loop-first g l = length l.rest
