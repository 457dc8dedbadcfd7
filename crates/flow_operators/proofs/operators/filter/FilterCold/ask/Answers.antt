use Rattle.std.proofs.Common.{arith, inl, refl, sym, ap, ◌∙◌}
use Rattle.std.proofs.lemmas.Grind.{common_steps}
use Rattle.flow_law.specs.chain.OperatorRuns.{filter_run}
use Rattle.flow_operators.specs.Behind.{rest_after_ask}
use Rattle.flow_operators.specs.Passing.{from_passing}
use Rattle.flow_operators.specs.Upstreams.{chain_of, left_of}
use Rattle.flow_operators.proofs.PassingLemmas.{filter-after, filter-from, filter-item, passed-leaves, passed-on}
use Rattle.flow_operators.proofs.operators.filter.FilterCold.ask.Goals as goal

pub returns-in-Ok : goal.returns-in-Ok
returns-in-Ok g c = record {
  callable = grind (arith, common_steps);
  reads = grind (arith, common_steps);
  whole = grind (arith, common_steps);
  gives = λ m r. filter-item m.1 _ _ _ (c.in-Ok.ensures.gives m.0 m.1 r.0 r.1);
  fewer = grind (arith, common_steps);
  over = grind (arith, common_steps);
  answered = grind (arith, common_steps);
  behind = λ running m r.
      let gives = c.in-Ok.ensures.behind running m.0 m.1 r.0 r.1 in
      inl (sym (filter-after m.1 (g.C.Cold.rest (chain_of c.args.self.now.upstream) m.0) ∙ ap rest_after_ask gives));
  given = grind (arith, common_steps);
  lasting = grind (arith, common_steps);
  end = grind (arith, common_steps);
}

pub returns-in-Err : goal.returns-in-Err
returns-in-Err g c = record {
  callable = grind (arith, common_steps);
  reads = grind (arith, common_steps);
  whole = grind (arith, common_steps);
  gives = λ m r.
      let before = left_of (λ d. g.C.Cold.rest d m.0) c.args.self.now.upstream in
      passed-on (filter_run m.1) (λ q. refl) (λ e. refl) (from_passing m.1 before) before _ c.in-Err.asked (filter-from m.1 before) (c.in-Err.ensures.gives m.0 m.1 r.0 r.1);
  fewer = grind (arith, common_steps);
  over = grind (arith, common_steps);
  answered = grind (arith, common_steps);
  behind = λ running m r.
      rw (filter-after m.1 (g.C.Cold.rest (chain_of c.args.self.now.upstream) m.0)) (passed-leaves _ _ c.in-Err.asked (c.in-Err.ensures.behind running m.0 m.1 r.0 r.1));
  given = grind (arith, common_steps);
  lasting = grind (arith, common_steps);
  end = grind (arith, common_steps);
}
