use Rattle.std.proofs.Common.{◌≡◌, ◌∙◌, true, sym, ap, subst}
use Rattle.flow_law.specs.flow.EmitRule.{append, drop_oldest}
use Rattle.flow_law.specs.flow.Covering.{Covers}
use Rattle.flow_core.specs.SharedCore.{fields_of, kept_full}
use Rattle.flow_core.proofs.SoundLemmas.{sound_issued, number_left}
use Rattle.flow_core.proofs.EmissionLemmas.{covers-dropped, near_dropped}
use Rattle.flow_core.proofs.shared.SharedCore.append_dropping.Goals as goal

pub invariant_of-self : goal.invariant_of-self
invariant_of-self g c = sound_issued c.self.inside c.self.invariant c.if-self.false

pub returns : goal.returns
returns g c = let issued = number_left c.self.inside _ c.self.view_is c.if-self.false in (
  issued.0,
  issued.1,
  λ s stands.
      let within : Covers (fields_of c.self.inside) s = subst (λ k. Covers k s) (sym c.self.view_is) stands in
      let full : kept_full (fields_of c.self.inside) ≡ true = ap kept_full c.self.view_is ∙ c.requires.full.0 in
      let near = near_dropped c.self.inside c.self.invariant (ap (λ core. core.config.overflow) c.self.view_is ∙ c.requires.full.1) full in
      let grown = covers-dropped (fields_of c.self.inside) s c.args.value c.self.invariant.reset_mark within near in
      c.trim.ensures (drop_oldest (append c.args.value s)) (subst (λ k. Covers k (drop_oldest (append c.args.value s))) (sym c.push_dropping.ensures) grown),
)
