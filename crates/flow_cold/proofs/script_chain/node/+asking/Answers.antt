use Rattle.std.proofs.Common.{refl, arith}
use Rattle.std.proofs.lemmas.Grind.{common_steps}
use Rattle.flow_operators.proofs.AskLemmas.{asks-item}
use Rattle.flow_cold.specs.Answers.{asked_of}
use Rattle.flow_cold.specs.ScriptChain.{node_rest}
use Rattle.flow_cold.proofs.script_chain.node.+asking.Goals as goal

pub ask_stage-loop-answer-smaller : goal.ask_stage-loop-answer-smaller
ask_stage-loop-answer-smaller t c =
    rw c.deref_mut.ensures.value at
    (asks-item _ _ (asked_of c.ask_node-asked.result) c.ask_node-asked.ensures.gives (c.in_default-on_answer.ensures.again refl))

pub ask_pair-returns-in-Item-clause-gives : goal.ask_pair-returns-in-Item-clause-gives
ask_pair-returns-in-Item-clause-gives t c =
    let gives = c.ask_right-in-Item.ensures.gives (node_rest c.ask_node.new.node) in
    rw (c.if-pairing.false, c.in-None.is, c.in-Item.ensures.gives) (grind (arith, common_steps))

pub ask_pair-returns-in_default-clause-gives : goal.ask_pair-returns-in_default-clause-gives
ask_pair-returns-in_default-clause-gives t c =
    c.without_item.ensures.gives (node_rest c.args.left.now) (node_rest c.ask_node.new.node) (node_rest c.args.right.now)
    c.ask_node.ensures.gives

pub ask_pair-returns-in_default-clause-behind_left : goal.ask_pair-returns-in_default-clause-behind_left
ask_pair-returns-in_default-clause-behind_left t c =
    λ runs. rw c.in-None.is (c.without_item.ensures.behind (node_rest c.args.left.now) (node_rest c.ask_node.new.node)
    (node_rest c.args.right.now) c.ask_node.ensures.gives).0

pub ask_pair-returns-in_default-clause-behind_right : goal.ask_pair-returns-in_default-clause-behind_right
ask_pair-returns-in_default-clause-behind_right t c =
    λ runs. rw c.in-None.is (c.without_item.ensures.behind (node_rest c.args.left.now) (node_rest c.ask_node.new.node)
    (node_rest c.args.right.now) c.ask_node.ensures.gives).1

pub ask_pair-returns-then-pairing : goal.ask_pair-returns-then-pairing
ask_pair-returns-then-pairing t c = grind (arith, common_steps)

pub ask_pair-returns-in-Some : goal.ask_pair-returns-in-Some
ask_pair-returns-in-Some t c = grind (arith, common_steps)

pub ask_right-returns : goal.ask_right-returns
ask_right-returns t c = grind (arith, common_steps)

pub ask_stage-returns-in-Some : goal.ask_stage-returns-in-Some
ask_stage-returns-in-Some t c = grind (arith, common_steps)

pub ask_stage-returns-in-Some-on_answer : goal.ask_stage-returns-in-Some-on_answer
ask_stage-returns-in-Some-on_answer t c = grind (arith, common_steps)
