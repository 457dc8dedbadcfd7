use Rattle.std.proofs.Common.{arith}
use Rattle.std.proofs.lemmas.Grind.{common_steps}
use Rattle.flow_script.proofs.collecting.collected.Goals as goal

pub returns-clause-answer : goal.returns-clause-answer
returns-clause-answer c = let collects = c.in-Ok.ensures.collects tt tt in grind (arith, common_steps)
