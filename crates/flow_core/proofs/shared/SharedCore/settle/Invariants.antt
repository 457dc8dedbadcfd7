use Rattle.std.proofs.Common.{◌≡◌, length}
use Rattle.flow_law.specs.declared.states.SharedFlowState.{SharedFlowState}
use Rattle.flow_law.specs.flow.SharedStep.{settle}
use Rattle.flow_law.specs.flow.Covering.{Covers}
use Rattle.flow_core.proofs.shared.SharedCore.settle.Given as goal

-- settling leads to the same states as when the loop began
abbrev pub invariant-loop : goal.invariant-loop
invariant-loop g l = (s : SharedFlowState g.row.T.Denot) → Covers l.initial.self s → (t : SharedFlowState g.row.T.Denot) × Covers l.self t × (settle t ≡ settle s)

abbrev pub decreases-loop : goal.decreases-loop
decreases-loop g l = length l.self.queue
