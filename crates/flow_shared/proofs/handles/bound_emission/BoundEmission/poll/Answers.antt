use Rattle.std.proofs.Common.{arith}
use Rattle.std.proofs.lemmas.Grind.{common_steps}
use Rattle.flow_shared.proofs.handles.bound_emission.BoundEmission.poll.Goals as goal

pub returns-in-Done : goal.returns-in-Done
returns-in-Done g c = grind (arith, common_steps)

pub returns-in-Waiting : goal.returns-in-Waiting
returns-in-Waiting g c = grind (arith, common_steps)
