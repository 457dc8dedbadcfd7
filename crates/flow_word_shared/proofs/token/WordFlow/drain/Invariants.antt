use Rattle.std.proofs.Common.{◌≤◌, ◌-◌}
use Rattle.flow_law.proofs.DrainingLemmas.{HasTaken}
use Rattle.flow_word_shared.specs.Answers.{WordFlowNexts}
use Rattle.flow_word_shared.proofs.token.WordFlow.drain.Given as goal

abbrev pub invariant-loop-left : goal.invariant-loop-left
invariant-loop-left g l = record {
  within : l.left ≤ l.most;
  taken : HasTaken (WordFlowNexts l.self.first) (l.most - l.left) l.fn.subscription l.fn.values.items l.values.items l.subscription;
}

abbrev pub decreases-loop-left : goal.decreases-loop-left
decreases-loop-left g l = l.left
