use Rattle.std.proofs.Common.{arith, refl}
use Rattle.std.proofs.lemmas.Grind.{common_steps}
use Rattle.flow_operators.proofs.StreamLemmas.{streams_fault}
use Rattle.flow_operators.proofs.streamed.StreamedStream.poll_next.Goals as goal

pub returns-in-Item : goal.returns-in-Item
returns-in-Item g c = grind (arith, common_steps)

pub returns-in-Pending : goal.returns-in-Pending
returns-in-Pending g c = grind (arith, common_steps)

pub returns-in-End : goal.returns-in-End
returns-in-End g c = grind (arith, common_steps)

pub returns-in-Fault : goal.returns-in-Fault
returns-in-Fault g c = record {
  value = rw c.if-self.false (λ m r. streams_fault _ _ (c.in-Fault.ensures.gives m r).0 _ _ refl);
  rest = λ xs last over. rw c.if-self.false (λ m r. streams_fault _ _ (c.in-Fault.ensures.gives m r).0 _ _ (refl, over));
  goes = grind (arith, common_steps);
  again = grind (arith, common_steps);
  same = grind (arith, common_steps);
  registered = grind (arith, common_steps);
  kept = grind (arith, common_steps);
  stays = grind (arith, common_steps);
  gives = grind (arith, common_steps);
  given = grind (arith, common_steps);
  fewer = grind (arith, common_steps);
  over = grind (arith, common_steps);
  end = grind (arith, common_steps);
  answered = grind (arith, common_steps);
}
