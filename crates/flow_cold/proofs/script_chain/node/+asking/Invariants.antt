use Rattle.std.proofs.Common.{◌≡◌, ◌≤◌, ◌+◌, ◌*◌, max, ℤ}
use Rattle.flow_law.specs.chain.ChainRun.{ChainRun, asks}
use Rattle.flow_cold.specs.declared.script_chain.node.Node.{size-Node}
use Rattle.flow_cold.specs.OperatorAsks.{after_stage}
use Rattle.flow_cold.specs.Operators.{IsStageOver, operator_whole, stage_rest}
use Rattle.flow_cold.specs.ScriptChain.{node_whole, node_rest, node_depth}
use Rattle.flow_cold.proofs.script_chain.node.+asking.Given as goal

-- the measures fall from call to call: a node, its stage or pair, a pair's right side, then the node below
abbrev pub decreases-ask_node : goal.decreases-ask_node
decreases-ask_node l = 3 * size-Node l.node.now

abbrev pub decreases-ask_stage : goal.decreases-ask_stage
decreases-ask_stage l = 3 * size-Node l.upstream.now.value + 1

abbrev pub decreases-ask_pair : goal.decreases-ask_pair
decreases-ask_pair l = 3 * max (size-Node l.left.now) (size-Node l.right.now) + 2

abbrev pub decreases-ask_right : goal.decreases-ask_right
decreases-ask_right l = 3 * size-Node l.right.now + 1

abbrev pub invariant-ask_stage-loop-answer : goal.invariant-ask_stage-loop-answer
invariant-ask_stage-loop-answer l = record {
  size : size-Node l.upstream.value ≤ size-Node l.initial.upstream.value;
  depth : node_depth l.upstream.value ≡ node_depth l.initial.upstream.value;
  end : IsStageOver l.initial.stage → (l.upstream ≡ l.initial.upstream) × l.stage ≡ l.initial.stage;
  upstream : node_whole l.upstream.value ≡ node_whole l.initial.upstream.value;
  operator : (r : ChainRun ℤ) → operator_whole l.stage.operator r ≡ operator_whole l.initial.stage.operator r;
  rest : stage_rest l.initial.stage (node_rest l.initial.upstream.value) ≡ stage_rest l.stage (node_rest l.upstream.value);
  behind : after_stage l.initial.stage (node_rest l.initial.upstream.value) ≡ after_stage l.stage (node_rest l.upstream.value);
}

abbrev pub decreases-ask_stage-loop-answer : goal.decreases-ask_stage-loop-answer
decreases-ask_stage-loop-answer l = asks (node_rest l.upstream.value)
