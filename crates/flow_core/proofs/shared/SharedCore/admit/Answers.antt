use Rattle.std.proofs.Common.{◌≡◌, true, false, map, ◌∙◌, ◌+◌, ◌∷◌, ◌++◌, [], sym, ap, refl, subst, length, arith}
use Rattle.flow_law.specs.declared.states.Numbered.{Numbered}
use Rattle.flow_law.specs.flow.SharedFlow.{is_blocked}
use Rattle.flow_law.specs.flow.Covering.{Covers}
use Rattle.flow_law.specs.laws.Laws.{RisesTo}
use Rattle.flow_law.proofs.Rows.{rises_from}
use Rattle.std.proofs.lemmas.List.{nil_from_length}
use Rattle.flow_law.proofs.CoveringLemmas.{settle_first, settle_blocked, settle_idle}
use Rattle.flow_core.specs.SharedCore.{fields_of, kept_full}
use Rattle.flow_containers.specs.Queue.{numbered_of}
use Rattle.flow_core.proofs.SoundLemmas.{sound_queue}
use Rattle.flow_core.proofs.EmissionLemmas.{covers-admitted, near_free}
use Rattle.flow_core.proofs.shared.SharedCore.admit.Goals as goal

pub returns-then-len-eq0-clause-settled : goal.returns-then-len-eq0-clause-settled
returns-then-len-eq0-clause-settled g c = (
  refl,
  λ s stands.
      let none : length s.queue ≡ 0 = omega (arith, ap (λ core. length core.queue) c.self.view_is, ap length stands.queue) in
      subst (λ t. Covers c.args.self.now t) (sym (settle_idle s (nil_from_length s.queue none))) stands,
)

pub returns-then-is_blocked-clause-settled : goal.returns-then-is_blocked-clause-settled
returns-then-is_blocked-clause-settled g c = (
  refl,
  λ s stands.
      let blocked : is_blocked s ≡ true = sym (c.is_blocked.ensures.shown s stands) ∙ c.if-is_blocked.true in
      subst (λ t. Covers c.args.self.now t) (sym (settle_blocked s blocked)) stands,
)

pub invariant_of-self-in-Some : goal.invariant_of-self-in-Some
invariant_of-self-in-Some g c =
    let i = c.self.inside in
    let longer : length i.queue ≡ length c.pop_front.new.self + 1 = omega (arith, ap length c.in-Some.ensures) in
    let numbers = c.self.invariant.numbers in
    let rises : RisesTo 0 (map (λ (q : Numbered _). q.number) (numbered_of c.in-Some.first ∷ c.pop_front.new.self)) i.issued =
    subst (λ k. RisesTo 0 (map (λ (q : Numbered _). q.number) k) i.issued) c.in-Some.ensures c.self.invariant.rising in
    sound_queue i c.pop_front.new.self i.issued c.self.invariant (omega arith) c.self.invariant.issued (omega (arith, longer, numbers))
    (rises_from 0 c.in-Some.first.number i.issued (map (λ (q : Numbered _). q.number) c.pop_front.new.self) (omega arith) rises.1)

pub returns-in-Some-clause-admitted : goal.returns-in-Some-clause-admitted
returns-in-Some-clause-admitted g c =
    let i = c.self.inside in
    let queue = c.pop_front.new.self in
    let pushed = ap (λ core. length core.queue) c.push.ensures in (
      omega (arith, pushed, ap length c.in-Some.ensures, ap (λ core. length core.queue) c.self.view_is),
      λ s stands.
          let within : Covers (fields_of i) s = subst (λ k. Covers k s) (sym c.self.view_is) stands in
          let free : is_blocked s ≡ false = sym (c.is_blocked.ensures.shown s stands) ∙ c.if-is_blocked.false in
          let own : kept_full (fields_of i) ≡ false = ap kept_full c.self.view_is ∙ sym c.is_blocked.ensures.own ∙ c.if-is_blocked.false in
          let first = numbered_of c.in-Some.first in
          let here : s.queue ≡ first ∷ queue = sym within.queue ∙ c.in-Some.ensures in
          let after = record s { emitted = s.emitted ++ first ∷ []; queue = queue } in (
            after,
            subst (λ k. Covers k after) (sym c.push.ensures) (covers-admitted (fields_of i) s first queue c.self.invariant.reset_mark within (near_free i c.self.invariant own)),
            sym (settle_first s first queue here free),
          ),
    )

pub invariant_of-self : goal.invariant_of-self
invariant_of-self g c = absurd (c.if-len-eq0.false (c.len.ensures ∙ ap length c.in-None.ensures.0))

pub push-requires-clause-free : goal.push-requires-clause-free
push-requires-clause-free g c = ap kept_full c.self.view_is ∙ sym c.is_blocked.ensures.own ∙ c.if-is_blocked.false

pub push-requires-clause-issued : goal.push-requires-clause-issued
push-requires-clause-issued g c = omega (arith, ap length c.in-Some.ensures, c.self.invariant.numbers)

pub returns-in-None-clause-settled : goal.returns-in-None-clause-settled
returns-in-None-clause-settled g c = absurd (c.if-len-eq0.false (c.len.ensures ∙ ap length c.in-None.ensures.0))
