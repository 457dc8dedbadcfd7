use Rattle.std.proofs.Common.{arith, inl, inr, subst}
use Rattle.std.proofs.lemmas.Grind.{common_steps}
use Rattle.flow_operators.specs.Stopping.{StandsAfterFirst}
use Rattle.flow_operators.proofs.terminal.Terminal.single.Goals as goal

pub returns-in_err-first : goal.returns-in_err-first
returns-in_err-first g c = grind (arith, common_steps)

pub returns-in_default : goal.returns-in_default
returns-in_default g c = grind (arith, common_steps)

pub returns-in_err-next_item : goal.returns-in_err-next_item
returns-in_err-next_item g c = grind (arith, common_steps)

pub returns-in-Some-2 : goal.returns-in-Some-2
returns-in-Some-2 g c = record {
  stays = grind (arith, common_steps);
  given = grind (arith, common_steps);
  single = grind (arith, common_steps);
  only = grind (arith, common_steps);
  stands = inr (λ m r.
      let now = c.rewind.ensures.reads m r in
      let first = rw c.in-Some.is at c.in_ok-first.ensures.stands in
      let second = rw c.in-Some-2.is at c.in_ok-next_item.ensures.stands in (
        c.in-Some.first,
        c.in-Some-2.field-0,
        g.Self.Cold.rest c.next_item.new.chain m,
        subst (λ k. StandsAfterFirst c.in-Some.first k (g.Self.Cold.rest c.next_item.new.chain m)) (c.rewind.ensures.rest m) (first m now),
        second m (c.next_item.ensures.stays.reads m now),
      ));
  over = grind (arith, common_steps);
  answered = grind (arith, common_steps);
}

pub returns-in-None : goal.returns-in-None
returns-in-None g c = record {
  stays = grind (arith, common_steps);
  given = grind (arith, common_steps);
  single = grind (arith, common_steps);
  only = grind (arith, common_steps);
  stands = inl (
    rw c.in-None.is at c.in_ok-next_item.ensures.over,
    λ m r.
        let now = c.rewind.ensures.reads m r in
        let first = rw c.in-Some.is at (c.in_ok-first.ensures.gives m now) in
        let none = rw c.in-None.is at (c.in_ok-next_item.ensures.gives m (c.next_item.ensures.stays.reads m now)) in
        let begins = c.rewind.ensures.rest m in
        grind (arith, common_steps),
  );
  over = grind (arith, common_steps);
  answered = grind (arith, common_steps);
}
