use Rattle.flow_cold.proofs.script_chain.build.ScriptChainCold.ask.Goals as goal

pub returns-clause-behind : goal.returns-clause-behind
returns-clause-behind c = λ running m r. rw c.asked.ensures (c.ask_node.ensures.behind running)
