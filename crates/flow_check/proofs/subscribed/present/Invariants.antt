use Rattle.std.proofs.Common.{◌≡◌, ◌+◌, ◌≤◌, length}
use Rattle.flow_check.specs.Subscribed.{present}
use Rattle.flow_check.proofs.subscribed.present.Given as goal

abbrev pub invariant-loop-first : goal.invariant-loop-first
invariant-loop-first g l = (l.count + present l.rest ≡ present l.callers) × (l.count + length l.rest ≤ length l.callers)

abbrev pub decreases-loop-first : goal.decreases-loop-first
decreases-loop-first g l = length l.rest
