use Rattle.std.proofs.Common.{take}
use Rattle.flow_check.specs.Moments.{IsKnown}
use Rattle.flow_check.proofs.moments.known_rows.Given as goal

abbrev pub invariant-loop-row : goal.invariant-loop-row
invariant-loop-row g l = IsKnown l.cut (take l.row-index l.callers) l.known.items
