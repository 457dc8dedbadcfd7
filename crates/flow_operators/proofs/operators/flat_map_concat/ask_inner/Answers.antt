use Rattle.std.proofs.Common.{arith}
use Rattle.std.proofs.lemmas.Grind.{common_steps}
use Rattle.flow_operators.proofs.operators.flat_map_concat.ask_inner.Goals as goal

pub returns-in_default : goal.returns-in_default
returns-in_default g c = grind (arith, common_steps)

pub returns-in-Item : goal.returns-in-Item
returns-in-Item g c = grind (arith, common_steps)

pub returns-in-Pending : goal.returns-in-Pending
returns-in-Pending g c = grind (arith, common_steps)

pub returns-in_default-ask : goal.returns-in_default-ask
returns-in_default-ask g c = grind (arith, common_steps)
