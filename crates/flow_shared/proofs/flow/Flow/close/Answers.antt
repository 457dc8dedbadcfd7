use Rattle.std.proofs.Common.{ap, sym, ◌∙◌, subst}
use Rattle.flow_law.specs.history.Growth.{Fits}
use Rattle.flow_law.specs.history.History.{after_all}
use Rattle.flow_law.specs.flow.Standing.{StandsForHistory}
use Rattle.flow_shared.proofs.flow.Flow.close.Goals as goal

pub returns-in-Some : goal.returns-in-Some
returns-in-Some g c =
    let found = c.in-Some.ensures in
    let kind = g.S.FlowCore.kind in
    let begun = g.S.FlowCore.first c.self.inside.gate.first.core in (
      found.0,
      subst (λ first. StandsForHistory kind g.S.FlowCore.stands_as first c.into_core.result found.0) (ap (λ z. z.first) c.self.view_is)
          (found.1.0, subst (λ core. g.S.FlowCore.stands_as core (after_all kind begun found.0)) (sym c.into_core.ensures) found.1.1.attends.core),
      subst (λ t. Fits found.0 t.knows) (ap (λ s. s.token) c.into_inner.ensures) found.2,
    )
