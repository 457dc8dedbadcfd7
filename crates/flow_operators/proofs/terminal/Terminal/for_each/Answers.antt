use Rattle.std.proofs.Common.{◌≡◌, Err, ap, refl, rules, of_calls, ◌∙◌}
use Rattle.std.proofs.lemmas.Result.{err_from_is_err_and}
use Rattle.flow_law.specs.declared.chain.End.TheVariants.{Failed}
use Rattle.flow_operators.specs.Stopping.{StandsAfterVisited}
use Rattle.flow_operators.proofs.SameChainLemmas.{stays-then}
use Rattle.flow_operators.proofs.StoppingLemmas.{closure-fault, visited-here, visited-later}
use Rattle.flow_operators.proofs.TerminalLemmas.{visits_fault, visits_item}
use Rattle.flow_operators.proofs.terminal.Terminal.for_each.Goals as goal

pub loop-item-preserved : goal.loop-item-preserved
loop-item-preserved g c = record {
  stays = stays-then c.loop-item.invariant.stays c.next_item.ensures.stays;
  visiting = search of_calls;
  visits = λ m r result h.
      let gives = rw c.in-Ok-Some.field-0-is at (c.in-Ok-Some.ensures.gives m (c.loop-item.invariant.stays.reads m r)) in
      c.loop-item.invariant.visits m r result
      (visits_item (λ f x s h. goal.F-step g f x s h) c.loop-item.visit c.visit.new.self c.in-Ok-Some.item (g.Self.Cold.rest c.loop-item.self m) (g.Self.Cold.rest c.next_item.new.chain m) gives (search (of_calls, rules)) result h);
  stands = λ m r fault after visited.
      let first = rw c.in-Ok-Some.field-0-is at c.in-Ok-Some.ensures.stands in
      c.loop-item.invariant.stands m r fault after
      (visited-later (λ f x s h. goal.F-step g f x s h) fault c.loop-item.visit c.visit.new.self c.in-Ok-Some.item (g.Self.Cold.rest c.loop-item.self m) (g.Self.Cold.rest c.next_item.new.chain m) after
      (first m (c.loop-item.invariant.stays.reads m r)) (search (of_calls, rules)) visited);
}

pub returns-in-Ok-None-clause-visits : goal.returns-in-Ok-None-clause-visits
returns-in-Ok-None-clause-visits g c = λ m r.
    let gives = rw c.in-Ok-None.field-0-is at (c.in-Ok-None.ensures.gives m (c.loop-item.invariant.stays.reads m r)) in
    c.loop-item.invariant.visits m r _ (rw (gives.0, gives.1) refl)

pub returns-in-Err-clause-visits : goal.returns-in-Err-clause-visits
returns-in-Err-clause-visits g c = λ m r.
    c.loop-item.invariant.visits m r _ (visits_fault (λ f x s h. goal.F-step g f x s h) c.loop-item.visit (g.Self.Cold.rest c.loop-item.self m) c.in-Err.fault (c.in-Err.ensures.gives m (c.loop-item.invariant.stays.reads m r)).0)

pub returns-in_err-visit-in-Ok-Some-clause-stands : goal.returns-in_err-visit-in-Ok-Some-clause-stands
returns-in_err-visit-in-Ok-Some-clause-stands g c =
    let given = err_from_is_err_and c.from_residual.result c.from_residual.ensures.1 in
    let same : c.from_residual.result ≡ Err c.in_err-visit-in-Ok-Some.field-0.0 = given.1 ∙ ap Err given.2 in
    closure-fault c.from_residual.result c.in_err-visit-in-Ok-Some.field-0.0
    (λ fault. g.Self.Cold.IsOver c.next_item.new.chain × g.Self.Cold.HasAnswered c.next_item.new.chain (Failed fault))
    (λ fault. (m : g.Self.Cold.Reading) → g.Self.Cold.Reads c.args.self.now m
    → StandsAfterVisited (λ f x r h. goal.F-step g f x r h) fault c.args.visit (g.Self.Cold.whole c.args.self.now m) (g.Self.Cold.rest c.next_item.new.chain m))
    same
    (λ m r.
    let first = rw c.in-Ok-Some.field-0-is at c.in-Ok-Some.ensures.stands in
    c.loop-item.invariant.stands m r c.in_err-visit-in-Ok-Some.field-0.0 (g.Self.Cold.rest c.next_item.new.chain m)
    (visited-here (λ f x s h. goal.F-step g f x s h) c.in_err-visit-in-Ok-Some.field-0.0 c.loop-item.visit c.visit.new.self c.in-Ok-Some.item (g.Self.Cold.rest c.loop-item.self m) (g.Self.Cold.rest c.next_item.new.chain m)
    (first m (c.loop-item.invariant.stays.reads m r)) (search (of_calls, rules))))
