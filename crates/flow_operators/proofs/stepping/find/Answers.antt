use Rattle.std.proofs.Common.{◌≡◌, not, arith, subst}
use Rattle.std.proofs.lemmas.Grind.{common_steps}
use Rattle.std.specs.Fn.{FnReturnsAt}
use Rattle.flow_operators.proofs.SameChainLemmas.{stays-then}
use Rattle.flow_operators.proofs.StoppingLemmas.{found-here, found-later}
use Rattle.flow_operators.proofs.stepping.find.Goals as goal

pub loop-item-preserved : goal.loop-item-preserved
loop-item-preserved g c = record {
  stays = stays-then c.loop-item.invariant.stays c.next_item.ensures.stays;
  finds = λ m p r d.
      let passes = c.passes.ensures.decides p d in
      let finds = c.loop-item.invariant.finds m p r d in
      let gives = rw c.in-Some.is at (c.in_ok-item.ensures.gives m (c.loop-item.invariant.stays.reads m r)) in
      grind (arith, common_steps);
  stands = λ m r x after found.
      let first = rw c.in-Some.is at c.in_ok-item.ensures.stands in
      let fails : c.passes.result ≡ not c.args.wanted = grind (arith, common_steps) in
      c.loop-item.invariant.stands m r x after
      (found-later (λ y b. FnReturnsAt g.F.Fn c.args.test.now y b) c.args.wanted x c.in-Some.item (g.C.Cold.rest c.loop-item.chain m) (g.C.Cold.rest c.next_item.new.chain m) after (first m (c.loop-item.invariant.stays.reads m r))
      (subst (λ b. FnReturnsAt g.F.Fn c.args.test.now c.in-Some.item b) fails c.passes.ensures.called) found);
}

pub returns-in_err-item : goal.returns-in_err-item
returns-in_err-item g c = grind (arith, common_steps)

pub returns-then-passes-wanted : goal.returns-then-passes-wanted
returns-then-passes-wanted g c = record {
  stays = stays-then c.loop-item.invariant.stays c.next_item.ensures.stays;
  given = grind (arith, common_steps);
  finds = λ m p r d.
      let passes = c.passes.ensures.decides p d in
      let finds = c.loop-item.invariant.finds m p r d in
      let gives = rw c.in-Some.is at (c.in_ok-item.ensures.gives m (c.loop-item.invariant.stays.reads m r)) in
      grind (arith, common_steps);
  over = grind (arith, common_steps);
  stands = λ m r.
      let first = rw c.in-Some.is at c.in_ok-item.ensures.stands in
      let passes : c.passes.result ≡ c.args.wanted = grind (arith, common_steps) in
      c.loop-item.invariant.stands m r c.in-Some.item (g.C.Cold.rest c.next_item.new.chain m)
      (found-here (λ y b. FnReturnsAt g.F.Fn c.args.test.now y b) c.args.wanted c.in-Some.item (g.C.Cold.rest c.loop-item.chain m) (g.C.Cold.rest c.next_item.new.chain m) (first m (c.loop-item.invariant.stays.reads m r))
      (subst (λ b. FnReturnsAt g.F.Fn c.args.test.now c.in-Some.item b) passes c.passes.ensures.called));
  answered = grind (arith, common_steps);
}

pub returns-in-None : goal.returns-in-None
returns-in-None g c = grind (arith, common_steps)
