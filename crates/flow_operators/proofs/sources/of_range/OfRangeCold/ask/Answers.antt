use Rattle.std.proofs.Common.{arith, refl}
use Rattle.std.proofs.lemmas.Grind.{common_steps}
use Rattle.flow_operators.proofs.sources.of_range.OfRangeCold.ask.Goals as goal

pub returns-then-item-self : goal.returns-then-item-self
returns-then-item-self c = record {
  callable = tt;
  reads = λ m r. tt;
  whole = λ m. refl;
  gives = λ m r. grind (arith, common_steps);
  fewer = grind (arith, common_steps);
  over = grind (arith, common_steps);
  answered = grind (arith, common_steps);
  behind = λ running m r. tt;
  given = grind (arith, common_steps);
  lasting = grind (arith, common_steps);
  end = grind (arith, common_steps);
}

pub returns-then-self : goal.returns-then-self
returns-then-self c = grind (arith, common_steps)

pub returns : goal.returns
returns c = grind (arith, common_steps)
