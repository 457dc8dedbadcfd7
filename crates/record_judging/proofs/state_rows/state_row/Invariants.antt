use Rattle.std.proofs.Common.{◌≡◌, ◌++◌, length}
use Rattle.record_judging.specs.StateRows.{state_row}
use Rattle.record_judging.proofs.state_rows.state_row.Given as goal

abbrev pub invariant-loop-first : goal.invariant-loop-first
invariant-loop-first l = l.row.items ++ state_row l.fn.lists l.rest ≡ state_row l.fn.lists l.fn.calls

abbrev pub decreases-loop-first : goal.decreases-loop-first
decreases-loop-first l = length l.rest
