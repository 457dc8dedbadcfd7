use Rattle.std.proofs.Common.{arith}
use Rattle.std.proofs.lemmas.Grind.{common_steps}
use Rattle.flow_operators.proofs.operators.transform.next_image.Goals as goal

pub returns : goal.returns
returns g c = grind (arith, common_steps)

pub returns-in_err-image : goal.returns-in_err-image
returns-in_err-image g c = grind (arith, common_steps)
