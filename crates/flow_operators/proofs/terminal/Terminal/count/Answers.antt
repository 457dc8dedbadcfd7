use Rattle.std.proofs.Common.{◌≡◌, ◌+◌, ◌^◌, arith, inr, ◌∙◌}
use Rattle.std.proofs.lemmas.Grind.{common_steps}
use Rattle.flow_operators.proofs.SameChainLemmas.{stays-then}
use Rattle.flow_operators.proofs.StoppingLemmas.{overflows}
use Rattle.flow_operators.proofs.TerminalLemmas.{reaches-next}
use Rattle.flow_operators.proofs.terminal.Terminal.count.Goals as goal

pub loop-next-preserved-in-Some-checked_add : goal.loop-next-preserved-in-Some-checked_add
loop-next-preserved-in-Some-checked_add g c = record {
  stays = stays-then c.loop-next.invariant.stays c.next_item.ensures.stays;
  fits = grind (arith, common_steps);
  count = λ m r.
      let gives = rw c.in-Some.is at (c.in_ok-next_item.ensures.gives m (c.loop-next.invariant.stays.reads m r)) in
      let count = c.loop-next.invariant.count m r in
      grind (arith, common_steps);
  ending = λ m r.
      let gives = rw c.in-Some.is at (c.in_ok-next_item.ensures.gives m (c.loop-next.invariant.stays.reads m r)) in
      c.loop-next.invariant.ending m r ∙ gives.1;
  stands = λ m r. reaches-next c.in-Some.field-0 (g.Self.Cold.whole c.args.self.now m) (g.Self.Cold.rest c.loop-next.self m) (g.Self.Cold.rest c.next_item.new.chain m) (c.loop-next.invariant.stands m r) (rw c.in-Some.is at (c.in_ok-next_item.ensures.gives m (c.loop-next.invariant.stays.reads m r)));
}

pub returns-in_err-next_item : goal.returns-in_err-next_item
returns-in_err-next_item g c = grind (arith, common_steps)

pub returns-in-None-checked_add : goal.returns-in-None-checked_add
returns-in-None-checked_add g c = record {
  stays = stays-then c.loop-next.invariant.stays c.next_item.ensures.stays;
  given = grind (arith, common_steps);
  counts = grind (arith, common_steps);
  over = grind (arith, common_steps);
  stands = inr (λ m r.
      let full : c.loop-next.count + 1 ≡ 2 ^ 64 = grind (arith, common_steps) in
      let gives = rw c.in-Some.is at (c.in_ok-next_item.ensures.gives m (c.loop-next.invariant.stays.reads m r)) in
      overflows c.loop-next.count c.in-Some.field-0 (g.Self.Cold.whole c.args.self.now m) (g.Self.Cold.rest c.loop-next.self m) (g.Self.Cold.rest c.next_item.new.chain m) full
      (c.loop-next.invariant.count m r) (c.loop-next.invariant.stands m r) gives);
  answered = grind (arith, common_steps);
}

pub returns-in-None : goal.returns-in-None
returns-in-None g c = grind (arith, common_steps)
