use Rattle.std.proofs.Common.{◌≡◌, ℕ, ◌<◌, ◌≤◌, ◌%◌, length, get_or}
use Rattle.flow_containers.proofs.position_counts.PositionCounts.least.Given as goal

abbrev pub invariant-loop-position : goal.invariant-loop-position
invariant-loop-position g l = (p : ℕ) → l.start ≤ p → p < l.position → get_or l.self.row (p % length l.self.row) 0 ≡ 0
