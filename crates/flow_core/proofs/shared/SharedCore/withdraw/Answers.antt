use Rattle.std.proofs.Common.{◌≡◌, [], ◌∙◌, ◌+◌, true, not, ◌==◌, map, length, sym, ap, subst, cond, arith}
use Rattle.std.specs.Prelude.{filter}
use Rattle.flow_law.specs.laws.Laws.{RisesTo}
use Rattle.flow_law.specs.declared.states.Numbered.{Numbered}
use Rattle.flow_law.specs.declared.states.SharedFlowState.{SharedFlowState}
use Rattle.flow_law.specs.flow.SharedFlow.{is_offered_as, stand_at, cache_start}
use Rattle.flow_law.specs.flow.Covering.{Covers, kept_start}
use Rattle.flow_law.proofs.Rows.{rises_filter}
use Rattle.flow_law.proofs.CoveringLemmas.{covers-subscribers, least_position-gathered}
use Rattle.flow_core.specs.SharedCore.{window_of, fields_of, IsSound}
use Rattle.flow_core.proofs.CallLemmas.{length-filter}
use Rattle.flow_core.proofs.RingLemmas.{within-gathered}
use Rattle.flow_core.proofs.SoundLemmas.{sound_subscribers, sound_queue}
use Rattle.flow_core.proofs.shared.SharedCore.withdraw.Goals as goal

pub invariant_of-self : goal.invariant_of-self
invariant_of-self g c =
    let i = c.self.inside in
    let own = rw c.if-is_offered_as.true at c.is_offered_as.ensures.own in
    let none : i.config.replay + i.config.extra ≡ 0 = ap (λ core. core.config.replay + core.config.extra) c.self.view_is ∙ own in
    let reset_mark = c.self.invariant.reset_mark in
    subst (λ u. IsSound (record i { subscribers = u })) (sym c.gather.ensures)
    (sound_subscribers i (map (stand_at i.subscribers.emitted) i.subscribers.list) i.subscribers.emitted c.self.invariant
    (within-gathered i.subscribers.emitted (window_of i.config) i.subscribers.list) (omega (arith, none))
    (least_position-gathered (kept_start (fields_of i)) i.subscribers.emitted i.subscribers.list (omega (arith, reset_mark))))

pub invariant_of-self-else-is_offered_as : goal.invariant_of-self-else-is_offered_as
invariant_of-self-else-is_offered_as g c =
    let i = c.self.inside in
    let numbers = c.self.invariant.numbers in
    let rising = subst (λ l. RisesTo 0 (map (λ (q : Numbered _). q.number) l) i.issued) (sym c.remove.ensures)
    (rises_filter (λ q. not (q.number == c.args.number)) 0 i.issued [] i.queue c.self.invariant.rising) in
    sound_queue i c.remove.new.self i.issued c.self.invariant (omega arith) c.self.invariant.issued
    (omega (arith, numbers, ap length c.remove.ensures, length-filter (λ (q : Numbered _). not (q.number == c.args.number)) i.queue)) rising

pub returns-then-is_offered_as : goal.returns-then-is_offered_as
returns-then-is_offered_as g c = λ s stands.
    let i = c.self.inside in
    let within : Covers (fields_of i) s = subst (λ k. Covers k s) (sym c.self.view_is) stands in
    let offered : is_offered_as c.args.number s ≡ true = sym (c.is_offered_as.ensures.shown s stands) ∙ c.if-is_offered_as.true in
    let gathered : SharedFlowState _ = record s { subscribers = map (stand_at (length s.emitted)) s.subscribers } in
    let all = covers-subscribers (fields_of i) s (map (stand_at i.subscribers.emitted) i.subscribers.list) (map (stand_at (length s.emitted)) s.subscribers) i.issued s.issued within
    (ap (λ n. map (stand_at n) i.subscribers.list) within.appended ∙ ap (map (stand_at (length s.emitted))) within.subscribers)
    within.issued (least_position-gathered (cache_start s) (length s.emitted) s.subscribers (omega (arith, within.reset_mark, within.appended, c.self.invariant.reset_mark))) in
    subst (λ t. Covers (fields_of (record i { subscribers = c.gather.new.self })) t)
    (sym (ap (λ t. cond t gathered (record s { queue = filter (λ q. not (q.number == c.args.number)) s.queue })) offered))
    (subst (λ u. Covers (fields_of (record i { subscribers = u })) gathered) (sym c.gather.ensures) all)
