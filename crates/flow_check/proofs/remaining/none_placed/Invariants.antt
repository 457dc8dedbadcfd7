use Rattle.std.proofs.Common.{◌≡◌, take}
use Rattle.flow_check.specs.Remaining.{none_placed}
use Rattle.flow_check.proofs.remaining.none_placed.Given as goal

abbrev pub invariant-loop-row : goal.invariant-loop-row
invariant-loop-row g l = l.placed.items ≡ none_placed (take l._row-index l.callers)
