use Rattle.std.proofs.Common.{arith}
use Rattle.std.proofs.lemmas.Grind.{common_steps}
use Rattle.flow_operators.proofs.operators.take_while.TakeWhileCold.ask.Goals as goal

pub returns-in-Err : goal.returns-in-Err
returns-in-Err g c = grind (arith, common_steps)

pub returns-in-Ok : goal.returns-in-Ok
returns-in-Ok g c = record {
  callable = grind (arith, common_steps);
  reads = grind (arith, common_steps);
  whole = grind (arith, common_steps);
  gives = λ m r.
      let passes = c.passes.ensures.decides m.1 r.1 in
      let gives = c.in-Ok.ensures.gives m.0 r.0 in
      grind (arith, common_steps);
  fewer = grind (arith, common_steps);
  over = grind (arith, common_steps);
  answered = grind (arith, common_steps);
  behind = grind (arith, common_steps);
  given = grind (arith, common_steps);
  lasting = grind (arith, common_steps);
  end = grind (arith, common_steps);
}

pub returns-in-Ok-2 : goal.returns-in-Ok-2
returns-in-Ok-2 g c = record {
  callable = grind (arith, common_steps);
  reads = grind (arith, common_steps);
  whole = grind (arith, common_steps);
  gives = λ m r.
      let passes = c.passes.ensures.decides m.1 r.1 in
      let gives = c.in-Ok-2.ensures.gives m.0 r.0 in
      grind (arith, common_steps);
  fewer = grind (arith, common_steps);
  over = grind (arith, common_steps);
  answered = grind (arith, common_steps);
  behind = grind (arith, common_steps);
  given = grind (arith, common_steps);
  lasting = grind (arith, common_steps);
  end = grind (arith, common_steps);
}
