use Rattle.std.proofs.Common.{◌≡◌, ◌∙◌, ◌+◌, map, length, sym, ap, subst, arith, length-append}
use Rattle.std.proofs.lemmas.List.{map-append}
use Rattle.flow_law.specs.laws.Laws.{RisesTo}
use Rattle.flow_law.specs.declared.states.Numbered.{Numbered}
use Rattle.flow_law.proofs.Rows.{rises_more}
use Rattle.flow_core.proofs.SoundLemmas.{sound_queue}
use Rattle.flow_core.proofs.shared.SharedCore.suspend.Goals as goal

pub invariant_of-self : goal.invariant_of-self
invariant_of-self g c =
    let i = c.self.inside in
    let number = i.issued + 1 in
    let issued = c.self.invariant.issued in
    let numbers = c.self.invariant.numbers in
    let longer : length c.push.new.self ≡ length i.queue + 1 = ap length c.in-Ok.ensures ∙ length-append i.queue _ in
    let rising = subst (λ l. RisesTo 0 l number)
    (sym (ap (map (λ (q : Numbered _). q.number)) c.in-Ok.ensures ∙ map-append (λ (q : Numbered _). q.number) i.queue _))
    (rises_more 0 i.issued _ c.self.invariant.rising) in
    sound_queue i c.push.new.self number c.self.invariant (omega arith) (omega (arith, issued, c.if-self.false)) (omega (arith, longer, numbers)) rising
