use Rattle.std.proofs.Common.{◌≡◌, Err, arith, ap, ◌∙◌}
use Rattle.std.proofs.lemmas.Result.{err_from_is_err_and}
use Rattle.std.proofs.lemmas.Grind.{common_steps}
use Rattle.flow_law.specs.declared.chain.End.TheVariants.{Failed}
use Rattle.flow_operators.specs.Stopping.{StandsAfterFailed}
use Rattle.flow_operators.proofs.SameChainLemmas.{stays-then}
use Rattle.flow_operators.proofs.StoppingLemmas.{closure-fault, failed-here, failed-later}
use Rattle.flow_operators.proofs.stepping.fold_rest.Goals as goal

pub loop-item-preserved : goal.loop-item-preserved
loop-item-preserved g c = record {
  stays = stays-then c.loop-item.invariant.stays c.next_item.ensures.stays;
  folds = λ m f r d.
      let made = c.in_ok-last-in-Some.ensures.computes f d in
      let folds = c.loop-item.invariant.folds m f r d in
      let gives = rw c.in-Some.is at (c.in_ok-item.ensures.gives m (c.loop-item.invariant.stays.reads m r)) in
      grind (arith, common_steps);
  stands = λ m r fault after failed.
      let first = rw c.in-Some.is at c.in_ok-item.ensures.stands in
      c.loop-item.invariant.stands m r fault after
      (failed-later (goal.F-post g c.args.closure.now) fault c.loop-item.last _ c.in-Some.item (g.C.Cold.rest c.loop-item.chain m) (g.C.Cold.rest c.next_item.new.chain m) after (first m (c.loop-item.invariant.stays.reads m r)) c.in_ok-last-in-Some.ensures.called failed);
}

pub returns-in_err-item : goal.returns-in_err-item
returns-in_err-item g c = grind (arith, common_steps)

pub returns-in_err-last-in-Some : goal.returns-in_err-last-in-Some
returns-in_err-last-in-Some g c = record {
  stays = stays-then c.loop-item.invariant.stays c.next_item.ensures.stays;
  given = grind (arith, common_steps);
  folds = grind (arith, common_steps);
  over = grind (arith, common_steps);
  stands =
      let given = err_from_is_err_and c.from_residual-in_err-last-in-Some.result c.from_residual-in_err-last-in-Some.ensures.1 in
      let same : c.from_residual-in_err-last-in-Some.result ≡ Err c.in_err-last-in-Some.field-0.0 = given.1 ∙ ap Err given.2 in
      closure-fault c.from_residual-in_err-last-in-Some.result c.in_err-last-in-Some.field-0.0
      (λ f. g.C.Cold.IsOver c.next_item.new.chain × g.C.Cold.HasAnswered c.next_item.new.chain (Failed f))
      (λ f. (m : g.C.Cold.Reading) → g.C.Cold.Reads c.args.chain.now m
      → StandsAfterFailed (goal.F-post g c.args.closure.now) f c.args.initial (g.C.Cold.rest c.args.chain.now m) (g.C.Cold.rest c.next_item.new.chain m))
      same
      (λ m r.
      let first = rw c.in-Some.is at c.in_ok-item.ensures.stands in
      c.loop-item.invariant.stands m r c.in_err-last-in-Some.field-0.0 (g.C.Cold.rest c.next_item.new.chain m)
      (failed-here (goal.F-post g c.args.closure.now) c.in_err-last-in-Some.field-0.0 c.loop-item.last c.in-Some.item (g.C.Cold.rest c.loop-item.chain m) (g.C.Cold.rest c.next_item.new.chain m) (first m (c.loop-item.invariant.stays.reads m r)) c.in_err-last-in-Some.ensures.called));
  answered = grind (arith, common_steps);
}

pub returns-in-None : goal.returns-in-None
returns-in-None g c = grind (arith, common_steps)
