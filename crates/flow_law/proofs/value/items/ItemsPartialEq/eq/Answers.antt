use Rattle.flow_law.specs.flow.Values.{list_exact}
use Rattle.flow_law.proofs.value.items.ItemsPartialEq.eq.Goals as goal

pub returns-clause-exact : goal.returns-clause-exact
returns-clause-exact g c =
    rw (← c.same.ensures) at (list_exact g.T.FlowValue.is_same g.met.T.FlowValue.is_same_exact c.args.self.now c.args.other.now)
