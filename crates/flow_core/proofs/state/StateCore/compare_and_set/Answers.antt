use Rattle.flow_core.specs.StateCore.{state_fields_of}
use Rattle.flow_core.proofs.StateLemmas.{exchanged, kept}
use Rattle.flow_core.proofs.state.StateCore.compare_and_set.Goals as goal

pub invariant_of-self : goal.invariant_of-self
invariant_of-self g c = c.self.invariant

pub returns-then-same : goal.returns-then-same
returns-then-same g c = record {
  documented = (
    λ s same. exchanged (state_fields_of c.self.inside) c.args.self.now s c.args.expect.now c.args.update c.same.result _ c.self.view_is same
        (g.met.T.FlowValue.is_same_exact c.self.inside.value c.args.expect.now) c.same.ensures c.if-same.true,
    tt,
  );
}

pub returns-else-same : goal.returns-else-same
returns-else-same g c = record {
  documented = (
    λ s same. (
      kept (state_fields_of c.self.inside) c.args.self.now s c.args.expect.now c.args.update c.same.result _ c.self.view_is same
          (g.met.T.FlowValue.is_same_exact c.self.inside.value c.args.expect.now) c.same.ensures c.if-same.false,
      same,
    ),
    tt,
  );
}
