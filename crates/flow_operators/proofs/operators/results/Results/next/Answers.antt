use Rattle.std.proofs.Common.{arith}
use Rattle.std.proofs.lemmas.Grind.{common_steps}
use Rattle.flow_operators.proofs.operators.results.Results.next.Goals as goal

pub returns-then-self : goal.returns-then-self
returns-then-self g c = grind (arith, common_steps)

pub returns-in-Ok : goal.returns-in-Ok
returns-in-Ok g c = grind (arith, common_steps)

pub returns-in-Err : goal.returns-in-Err
returns-in-Err g c = grind (arith, common_steps)

pub returns-in-Ok-try_copy : goal.returns-in-Ok-try_copy
returns-in-Ok-try_copy g c = grind (arith, common_steps)

pub returns-in-Err-try_copy : goal.returns-in-Err-try_copy
returns-in-Err-try_copy g c = grind (arith, common_steps)
