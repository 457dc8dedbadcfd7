use Rattle.std.proofs.Common.{arith}
use Rattle.flow_script.proofs.TextLemmas.{flow-written}
use Rattle.flow_script.proofs.script_text.add_all_not_made.Goals as goal

pub loop-flow-preserved : goal.loop-flow-preserved
loop-flow-preserved c = flow-written c.args.flows.now c.loop-flow.flow-index c.flow-item.result _ _ _ (omega arith) c.flow-item.is c.loop-flow.invariant c.in_ok-add_not_made.ensures
