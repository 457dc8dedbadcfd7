use Rattle.std.proofs.Common.{arith}
use Rattle.flow_script.proofs.TextLemmas.{step-written}
use Rattle.flow_script.proofs.script_text.add_steps.Goals as goal

pub loop-answer-preserved : goal.loop-answer-preserved
loop-answer-preserved c = step-written c.args.steps.now c.loop-answer.answer-index c.answer-item.result _ _ _ (omega arith) c.answer-item.is c.loop-answer.invariant c.in_ok-add_answer.ensures
