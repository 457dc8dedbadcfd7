use Rattle.std.proofs.Common.{arith}
use Rattle.std.proofs.lemmas.Grind.{common_steps}
use Rattle.flow_operators.proofs.operators.pairs.Pairs+L+R+L+Item.next.Goals as goal

pub returns-in-Pending : goal.returns-in-Pending
returns-in-Pending g c = grind (arith, common_steps)

pub returns-in-End : goal.returns-in-End
returns-in-End g c = grind (arith, common_steps)

pub returns-in-Fault : goal.returns-in-Fault
returns-in-Fault g c = grind (arith, common_steps)
