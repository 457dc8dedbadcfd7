use Rattle.std.proofs.Common.{arith}
use Rattle.std.proofs.lemmas.Grind.{common_steps}
use Rattle.flow_check.proofs.subscribed.present.Goals as goal

pub overflow_add-count : goal.overflow_add-count
overflow_add-count g c = grind (arith, common_steps)

pub loop-first-preserved-then-is_some : goal.loop-first-preserved-then-is_some
loop-first-preserved-then-is_some g c = grind (arith, common_steps)

pub loop-first-preserved : goal.loop-first-preserved
loop-first-preserved g c = grind (arith, common_steps)

pub returns : goal.returns
returns g c = grind (arith, common_steps)
