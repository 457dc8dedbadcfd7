use Rattle.std.proofs.Common.{◌≡◌, length}
use Rattle.flow_law.specs.flow.Values.{is_same_list}
use Rattle.flow_law.proofs.value.items.is_same_slice.Given as goal

abbrev pub invariant-loop-first : goal.invariant-loop-first
invariant-loop-first g l = is_same_list g.T.FlowValue.is_same l.fn.values l.fn.others ≡ is_same_list g.T.FlowValue.is_same l.left l.right

abbrev pub decreases-loop-first : goal.decreases-loop-first
decreases-loop-first g l = length l.left
