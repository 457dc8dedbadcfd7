use Rattle.std.proofs.Common.{◌∙◌, sym, ap, subst, arith}
use Rattle.std.specs.Prelude.{is_some}
use Rattle.flow_law.specs.declared.call.SharedReply.TheVariants as reply
use Rattle.flow_law.specs.flow.SharedFlow.{position_of, without, cache_start}
use Rattle.flow_law.specs.flow.SharedStep.{leave}
use Rattle.flow_law.specs.flow.Covering.{Covers, kept_start}
use Rattle.flow_law.proofs.CoveringLemmas.{covers-subscribers, least_position-without}
use Rattle.flow_law.proofs.HoldingLemmas.{covers}
use Rattle.flow_core.specs.SharedCore.{window_of, fields_of, IsSound}
use Rattle.flow_core.proofs.RingLemmas.{within-without}
use Rattle.flow_core.proofs.SoundLemmas.{sound_standing}
use Rattle.flow_core.proofs.shared.SharedCore.unsubscribe.Goals as goal

pub invariant_of-self : goal.invariant_of-self
invariant_of-self g c =
    let i = c.self.inside in
    let number = c.args.id.number in
    subst (λ u. IsSound (record i { subscribers = u })) (sym c.remove-was_there.ensures.removed)
    (sound_standing i (without number i.subscribers.list) i.subscribers.last i.subscribers.floor i.issued c.remove-was_there.new.self.by_key c.self.invariant
    (within-without i.subscribers.floor i.subscribers.emitted (window_of i.config) number i.subscribers.list c.self.invariant.within) c.self.invariant.floor
    (least_position-without (kept_start (fields_of i)) number i.subscribers.list) c.self.invariant.last (omega arith) c.self.invariant.issued c.self.invariant.rising)

pub returns : goal.returns
returns g c = record {
  documented = (
    λ s stands.
        let i = c.self.inside in
        let number = c.args.id.number in
        let within : Covers (fields_of i) s = subst (λ k. Covers k s) (sym c.self.view_is) (covers c.args.self.now s stands) in
        let left = covers-subscribers (fields_of i) s (without number i.subscribers.list) (without number s.subscribers) i.issued s.issued within
        (ap (without number) within.subscribers) within.issued (least_position-without (cache_start s) number s.subscribers) in (
          ap reply.Tested (c.remove-was_there.ensures.there ∙ ap (λ us. is_some (position_of number us)) within.subscribers),
          c.settle.ensures (leave number s) (subst (λ u. Covers (fields_of (record i { subscribers = u })) (leave number s)) (sym c.remove-was_there.ensures.removed) left),
        ),
    tt,
  );
}
