use Rattle.std.proofs.Common.{refl}
use Rattle.flow_sharing.proofs.derived.derive_from.Goals as goal

pub returns-clause-derived : goal.returns-clause-derived
returns-clause-derived g c =
    (c.in-Ok.ensures.received, (c.map.result, record { shown = _; shows = refl; says = record { met = c.map.ensures } }, c.set.ensures.called))
