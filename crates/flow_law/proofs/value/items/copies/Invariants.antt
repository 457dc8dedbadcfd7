use Rattle.std.proofs.Common.{◌≡◌, take}
use Rattle.flow_law.proofs.value.items.copies.Given as goal

abbrev pub invariant-loop-value : goal.invariant-loop-value
invariant-loop-value g l = l.copies.items ≡ take l.value-index l.values
