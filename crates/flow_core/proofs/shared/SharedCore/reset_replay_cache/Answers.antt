use Rattle.std.proofs.Common.{sym, refl, subst}
use Rattle.flow_law.specs.flow.SharedStep.{forget}
use Rattle.flow_law.specs.flow.Covering.{Covers}
use Rattle.flow_law.proofs.CoveringLemmas.{covers-forget}
use Rattle.flow_law.proofs.HoldingLemmas.{covers}
use Rattle.flow_core.specs.SharedCore.{fields_of, IsSound}
use Rattle.flow_core.proofs.SoundLemmas.{sound_forgotten}
use Rattle.flow_core.proofs.shared.SharedCore.reset_replay_cache.Goals as goal

pub invariant_of-self : goal.invariant_of-self
invariant_of-self g c = subst (λ n. IsSound (record c.self.inside { reset_mark = n })) (sym c.emitted-self-inside.ensures) (sound_forgotten c.self.inside c.self.invariant)

pub returns : goal.returns
returns g c = record {
  documented = (
    λ s stands.
        let within : Covers (fields_of c.self.inside) s = subst (λ k. Covers k s) (sym c.self.view_is) (covers c.args.self.now s stands) in
        let forgotten = covers-forget (fields_of c.self.inside) s c.self.invariant.reset_mark within in (
          refl,
          c.trim.ensures (forget s) (subst (λ n. Covers (fields_of (record c.self.inside { reset_mark = n })) (forget s)) (sym c.emitted-self-inside.ensures) forgotten),
        ),
    tt,
  );
}
