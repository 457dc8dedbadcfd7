use Rattle.std.proofs.Common.{◌≡◌, ◌-◌, ◌==◌, ◌∙◌, true, false, length, refl, sym, ap, subst}
use Rattle.flow_law.specs.flow.EmitRule.{append}
use Rattle.std.specs.Bool.{OnFalse}
use Rattle.flow_law.specs.flow.Standing.{StandsFor}
use Rattle.flow_law.specs.flow.Covering.{Covers, kept_start}
use Rattle.flow_law.proofs.HoldingLemmas.{covers}
use Rattle.flow_core.specs.SharedCore.{fields_of, kept_full}
use Rattle.flow_core.proofs.SoundLemmas.{sound_issued, number_left}
use Rattle.flow_core.proofs.EmissionLemmas.{covers-appended, stands-appended, near_free}
use Rattle.flow_core.proofs.shared.SharedCore.append.Goals as goal

pub invariant_of-self : goal.invariant_of-self
invariant_of-self g c = sound_issued c.self.inside c.self.invariant c.if-self.false

pub returns : goal.returns
returns g c = let issued = number_left c.self.inside _ c.self.view_is c.if-self.false in (
  issued.0,
  issued.1,
  λ s stands.
      let i = c.self.inside in
      let core = fields_of i in
      let v = c.args.value in
      let there : StandsFor core s = subst (λ k. StandsFor k s) (sym c.self.view_is) stands in
      let marked = c.self.invariant.reset_mark in
      let free : kept_full core ≡ false = ap kept_full c.self.view_is ∙ c.requires.free in
      let grown = covers-appended core s v marked (covers core s there) (near_free i c.self.invariant free) in
      let from : c.held_from.result ≡ i.subscribers.emitted - length i.values.items =
      c.held_from.ensures.from ∙ sym (ap (λ k. k.appended - length k.held) c.self.view_is) in
      let start : c.cache_start.result ≡ kept_start core = c.cache_start.ensures.start ∙ sym (ap kept_start c.self.view_is) in
      let same : (c.held_from.result == c.cache_start.result) ≡ (i.subscribers.emitted - length i.values.items == kept_start core) = cc (from, start) in
      let tight : OnFalse (c.held_from.result == c.cache_start.result) (StandsFor c.push.new.self (append v s)) =
      elim (c.held_from.result == c.cache_start.result) as (λ t. (c.held_from.result == c.cache_start.result) ≡ t → OnFalse t (StandsFor c.push.new.self (append v s))) [
        | true ↦ λ _. tt
        | false ↦ λ e. subst (λ k. StandsFor k (append v s)) (sym c.push.ensures) (stands-appended core s v marked there (sym same ∙ e) grown)
      ] refl in
      c.trim_after.ensures (append v s) (subst (λ k. Covers k (append v s)) (sym c.push.ensures) grown) tight,
)
