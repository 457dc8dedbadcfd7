use Rattle.std.proofs.Common.{◌≡◌, ◌++◌, length, map}
use Rattle.record_judging.specs.SharedRows.{plain, shared_row}
use Rattle.record_judging.proofs.shared_rows.shared_row.Given as goal

abbrev pub invariant-loop-first : goal.invariant-loop-first
invariant-loop-first l = map plain l.row.items ++ shared_row l.fn.lists l.rest ≡ shared_row l.fn.lists l.fn.calls

abbrev pub decreases-loop-first : goal.decreases-loop-first
decreases-loop-first l = length l.rest
