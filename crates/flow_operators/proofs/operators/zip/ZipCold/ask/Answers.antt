use Rattle.std.proofs.Common.{arith}
use Rattle.std.proofs.lemmas.Grind.{common_steps}
use Rattle.flow_operators.proofs.operators.zip.ZipCold.ask.Goals as goal

pub returns-in-Ok : goal.returns-in-Ok
returns-in-Ok g c = record {
  callable = grind (arith, common_steps);
  reads = grind (arith, common_steps);
  whole = grind (arith, common_steps);
  gives = grind (arith, common_steps);
  fewer = grind (arith, common_steps);
  over = grind (arith, common_steps);
  answered = grind (arith, common_steps);
  behind = λ running m r. let behind = c.in-Ok.ensures.behind running m.0.0 m.0.1 r.0.0 r.0.1 c.answer.result in grind (arith, common_steps);
  given = grind (arith, common_steps);
  lasting = grind (arith, common_steps);
  end = grind (arith, common_steps);
}

pub returns-in-Err-clause-behind : goal.returns-in-Err-clause-behind
returns-in-Err-clause-behind g c = λ running m r. c.in-Err.ensures.behind running m.0.0 m.0.1 r.0.0 r.0.1
