use Rattle.std.proofs.Common.{arith}
use Rattle.std.proofs.lemmas.Grind.{common_steps}
use Rattle.flow_operators.proofs.collect.collect_all.Goals as goal

pub loop-item-preserved-else-is_err : goal.loop-item-preserved-else-is_err
loop-item-preserved-else-is_err g c = grind (arith, common_steps)

pub loop-item-preserved : goal.loop-item-preserved
loop-item-preserved g c = grind (arith, common_steps)

pub returns-in-End : goal.returns-in-End
returns-in-End g c = grind (arith, common_steps)
