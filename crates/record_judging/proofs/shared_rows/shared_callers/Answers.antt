use Rattle.std.proofs.Common.{arith}
use Rattle.std.proofs.lemmas.Grind.{common_steps}
use Rattle.record_judging.proofs.shared_rows.shared_callers.Goals as goal

pub loop-calls-preserved : goal.loop-calls-preserved
loop-calls-preserved c = grind (arith, common_steps)

pub returns : goal.returns
returns c = grind (arith, common_steps)
