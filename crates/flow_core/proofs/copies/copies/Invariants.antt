use Rattle.std.proofs.Common.{◌≡◌, ◌-◌, take, drop}
use Rattle.flow_core.proofs.copies.copies.Given as goal

abbrev pub invariant-loop-place : goal.invariant-loop-place
invariant-loop-place g l = l.copies.items ≡ take (l.place - l.fn.from) (drop l.fn.from l.fn.values.items)
