use Rattle.std.proofs.Common.{arith}
use Rattle.std.proofs.lemmas.Grind.{common_steps}
use Rattle.flow_operators.proofs.operators.transform.TransformCold.ask.Goals as goal

pub returns-in-Some-clause-reads : goal.returns-in-Some-clause-reads
returns-in-Some-clause-reads g c = λ m r. (c.loop-item.invariant.stays.reads m.0 r.0, c.loop-item.invariant.computes m.1 r.1)

pub returns-in-Some-clause-gives : goal.returns-in-Some-clause-gives
returns-in-Some-clause-gives g c = λ m r. grind (arith, common_steps, c.loop-item.invariant.rest m.0 m.1 r.0 r.1, c.in-Some.ensures)

pub returns-in-Some-clause-behind : goal.returns-in-Some-clause-behind
returns-in-Some-clause-behind g c = λ running m r. grind (arith, common_steps, c.loop-item.invariant.behind m.0 m.1 r.0 r.1, c.in-Some.ensures)

pub returns-then-self : goal.returns-then-self
returns-then-self g c = grind (arith, common_steps)

pub returns-in-Err-images_of : goal.returns-in-Err-images_of
returns-in-Err-images_of g c = grind (arith, common_steps)

pub returns-in-Err : goal.returns-in-Err
returns-in-Err g c = grind (arith, common_steps)

pub loop-item-preserved : goal.loop-item-preserved
loop-item-preserved g c = grind (arith, common_steps)
