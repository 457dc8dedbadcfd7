use Rattle.std.proofs.Common.{◌≡◌, subst}
use Rattle.std.specs.Prelude.{IfOk}
use Rattle.use_flows.proofs.ReadingsLemmas.{latest_is}
use Rattle.use_flows.proofs.readings.Readings.latest.Goals as goal

pub returns : goal.returns
returns g c =
    let s = c.self.invariant.0 in
    subst (λ readings. IfOk c.replay_cache.result (λ latest. latest.items ≡ readings.values)) c.self.view_is
    (latest_is c.self.inside.flow s c.replay_cache.result c.self.invariant.1 c.self.invariant.2 (c.replay_cache.ensures.documented.0 s c.self.invariant.1).0)
