use Rattle.std.proofs.Common.{true, false, ◌≡◌, ◌<◌, ◌≤◌, ◌-◌, ◌+◌, ◌∷◌, [], length, None, Some, sym, ap, ◌∙◌, subst, refl, arith}
use Rattle.std.specs.List.{slice_get}
use Rattle.std.specs.Option.{IfSome}
use Rattle.std.specs.Bool.{OnFalse}
use Rattle.flow_law.specs.declared.call.SharedReply.TheVariants as reply
use Rattle.flow_law.specs.flow.SharedFlow.{own_of, position_of, values, with_own, move_to, cache_start}
use Rattle.flow_law.specs.flow.SharedStep.{advance, keep_own, settle}
use Rattle.flow_law.specs.flow.SharedHistory.{reply_by}
use Rattle.flow_law.specs.flow.Standing.{StandsFor}
use Rattle.flow_law.specs.flow.Covering.{Covers, kept_start}
use Rattle.flow_law.proofs.CoveringLemmas.{covers-subscribers, least_position-move_to, least_position-with_own}
use Rattle.flow_law.proofs.HoldingLemmas.{covers, same_value, stands-own}
use Rattle.std.specs.Prelude.{Ok}
use Rattle.flow_containers.specs.Receiving.{SubscriberReceives, was_last_at}
use Rattle.flow_core.specs.SharedCore.{window_of, fields_of, IsSound}
use Rattle.flow_core.proofs.CallLemmas.{next_own, next_gone, next_value, next_empty, next_wants_memory}
use Rattle.flow_containers.proofs.ReceivingLemmas.{found_below}
use Rattle.flow_core.proofs.RingLemmas.{least_at, within_at, within-moved, within-with_own, stays_tidy}
use Rattle.flow_core.proofs.SoundLemmas.{sound_subscribers}
use Rattle.flow_core.proofs.shared.SharedCore.next.Goals as goal

pub receive-requires-clause-kept : goal.receive-requires-clause-kept
receive-requires-clause-kept g c =
    let i = c.self.inside in
    let number = c.args.id.number in
    elim (position_of number i.subscribers.list) as (λ o. position_of number i.subscribers.list ≡ o → IfSome o (λ p. i.subscribers.emitted - length i.values.items ≤ p)) [
      | None ↦ λ at. tt
      | Some p ↦ λ at. omega (arith, least_at (kept_start (fields_of i)) number p i.subscribers.list at, c.self.invariant.enough)
    ] refl

pub invariant_of-self : goal.invariant_of-self
invariant_of-self g c =
    let i = c.self.inside in
    let number = c.args.id.number in
    let given = subst (λ r. SubscriberReceives number i.values.items i.subscribers (Ok r) c.receive.new.self) c.in-Ok-Own.field-0-is c.in-Ok-Own.ensures.receives in
    let own = given.0 in
    subst (λ u. IsSound (record i { subscribers = u })) (sym given.2)
    (sound_subscribers i (with_own number own i.subscribers.list) i.subscribers.floor c.self.invariant
    (within-with_own i.subscribers.floor i.subscribers.emitted (window_of i.config) number own i.subscribers.list c.self.invariant.within) c.self.invariant.floor
    (omega (arith, least_position-with_own (kept_start (fields_of i)) number own i.subscribers.list)))

pub returns-in-Ok-Own-clause-documented : goal.returns-in-Ok-Own-clause-documented
returns-in-Ok-Own-clause-documented g c = (
  λ s stands.
      let i = c.self.inside in
      let number = c.args.id.number in
      let given = subst (λ r. SubscriberReceives number i.values.items i.subscribers (Ok r) c.receive.new.self) c.in-Ok-Own.field-0-is c.in-Ok-Own.ensures.receives in
      let own = given.0 in
      let within : StandsFor (fields_of i) s = subst (λ k. StandsFor k s) (sym c.self.view_is) stands in
      let mine : own_of number s.subscribers ≡ c.in-Ok-Own.value ∷ own = ap (own_of number) (sym within.subscribers) ∙ given.1 in
      let all = next_own number c.in-Ok-Own.value own s mine in (
        sym (ap (λ a. reply_by reply.Received a.reply) all),
        subst (λ t. StandsFor (fields_of (record i { subscribers = c.receive.new.self })) t) (sym (ap (λ a. a.after) all))
            (subst (λ u. StandsFor (fields_of (record i { subscribers = u })) (keep_own number own s)) (sym given.2) (stands-own (fields_of i) s number own within)),
      ),
  tt,
)

pub returns-in-Ok-Empty-clause-documented : goal.returns-in-Ok-Empty-clause-documented
returns-in-Ok-Empty-clause-documented g c = (
  λ s stands.
      let i = c.self.inside in
      let number = c.args.id.number in
      let given = subst (λ r. SubscriberReceives number i.values.items i.subscribers (Ok r) c.receive.new.self) c.in-Ok-Empty.field-0-is c.in-Ok-Empty.ensures.receives in
      let p = given.0 in
      let at = given.1 in
      let within : StandsFor (fields_of i) s = subst (λ k. StandsFor k s) (sym c.self.view_is) stands in
      let here : position_of number s.subscribers ≡ Some p = ap (position_of number) (sym within.subscribers) ∙ at.1 in
      let none : own_of number s.subscribers ≡ [] = ap (own_of number) (sym within.subscribers) ∙ at.0 in
      let value : slice_get (values s) p ≡ None = same_value (fields_of i) s number p within c.self.invariant.reset_mark here ∙ at.2 in
      let all = next_empty number p s none here value in (
        sym (ap (λ a. reply_by reply.Received a.reply) all),
        subst (λ t. StandsFor (fields_of (record i { subscribers = c.receive.new.self })) t) (sym (ap (λ a. a.after) all))
            (subst (λ u. StandsFor (fields_of (record i { subscribers = u })) s) (sym given.2) within),
      ),
  tt,
)

pub invariant_of-self-in-Ok-Emitted : goal.invariant_of-self-in-Ok-Emitted
invariant_of-self-in-Ok-Emitted g c =
    let i = c.self.inside in
    let number = c.args.id.number in
    let given = subst (λ r. SubscriberReceives number i.values.items i.subscribers (Ok r) c.receive.new.self) c.in-Ok-Emitted.field-0-is c.in-Ok-Emitted.ensures.receives in
    let p = given.0 in
    let at = given.1 in
    let below = found_below (p - (i.subscribers.emitted - length i.values.items)) i.values.items c.in-Ok-Emitted.value at.2 in
    let held = c.self.invariant.held in
    let more : p < i.subscribers.emitted = omega (arith, below, held) in
    let stood = within_at i.subscribers.floor i.subscribers.emitted (window_of i.config) number p i.subscribers.list c.self.invariant.within at.1 in
    let later : IfSome (position_of number i.subscribers.list) (λ q. q ≤ p + 1) = rw at.1 (omega arith) in
    subst (λ u. IsSound (record i { subscribers = u })) (sym given.2)
    (sound_subscribers i (move_to number (p + 1) i.subscribers.list) i.subscribers.floor c.self.invariant
    (within-moved i.subscribers.floor i.subscribers.emitted (window_of i.config) number (p + 1) i.subscribers.list c.self.invariant.within (omega (arith, stood.0)) (omega (arith, more)) (omega (arith, stood.2)))
    c.self.invariant.floor (least_position-move_to (kept_start (fields_of i)) number (p + 1) i.subscribers.list later))

pub returns-in-Ok-Emitted-clause-documented : goal.returns-in-Ok-Emitted-clause-documented
returns-in-Ok-Emitted-clause-documented g c = (
  λ s stands.
      let i = c.self.inside in
      let number = c.args.id.number in
      let given = subst (λ r. SubscriberReceives number i.values.items i.subscribers (Ok r) c.receive.new.self) c.in-Ok-Emitted.field-0-is c.in-Ok-Emitted.ensures.receives in
      let p = given.0 in
      let at = given.1 in
      let within : StandsFor (fields_of i) s = subst (λ k. StandsFor k s) (sym c.self.view_is) stands in
      let covered : Covers (fields_of i) s = covers (fields_of i) s within in
      let here : position_of number s.subscribers ≡ Some p = ap (position_of number) (sym within.subscribers) ∙ at.1 in
      let none : own_of number s.subscribers ≡ [] = ap (own_of number) (sym within.subscribers) ∙ at.0 in
      let value : slice_get (values s) p ≡ Some c.in-Ok-Emitted.value = same_value (fields_of i) s number p within c.self.invariant.reset_mark here ∙ at.2 in
      let all = next_value number p c.in-Ok-Emitted.value s none here value in
      let later : IfSome (position_of number s.subscribers) (λ q. q ≤ p + 1) = rw here (omega arith) in
      let moved = covers-subscribers (fields_of i) s (move_to number (p + 1) i.subscribers.list) (move_to number (p + 1) s.subscribers) i.issued s.issued covered
      (ap (move_to number (p + 1)) within.subscribers) within.issued (least_position-move_to (cache_start s) number (p + 1) s.subscribers later) in
      let covers_after = subst (λ u. Covers (fields_of (record i { subscribers = u })) (advance number (p + 1) s)) (sym given.2) moved in
      let flag = c.in-Ok-Emitted.was_last in
      let tidy_after : OnFalse flag (StandsFor (fields_of (record i { subscribers = c.receive.new.self })) (advance number (p + 1) s)) =
      subst (λ u. OnFalse flag (StandsFor (fields_of (record i { subscribers = u })) (advance number (p + 1) s))) (sym given.2)
      (elim flag as (λ t. flag ≡ t → OnFalse t (StandsFor (fields_of (record i { subscribers = record i.subscribers { list = move_to number (p + 1) i.subscribers.list } })) (advance number (p + 1) s))) [
        | true ↦ λ _. tt
        | false ↦ λ e. stays_tidy (fields_of i) s number p within c.self.invariant.reset_mark at.1
            (sym (ap (λ u. was_last_at (i.subscribers.emitted - length i.values.items) p u.list) given.2) ∙ sym given.3 ∙ e)
      ] refl) in
      let settled = c.settle_after.ensures (advance number (p + 1) s) covers_after tidy_after in
      (sym (ap (λ a. reply_by reply.Received a.reply) all), subst (λ t. StandsFor c.settle_after.new.self t) (sym (ap (λ a. a.after) all)) settled),
  tt,
)

pub returns-in-Err-clause-documented : goal.returns-in-Err-clause-documented
returns-in-Err-clause-documented g c = (
  λ s stands.
      let i = c.self.inside in
      let number = c.args.id.number in
      let p = c.in-Err.ensures.receives.0 in
      let x = c.in-Err.ensures.receives.1 in
      let at = c.in-Err.ensures.receives.2 in
      let within : StandsFor (fields_of i) s = subst (λ k. StandsFor k s) (sym c.self.view_is) stands in
      let here : position_of number s.subscribers ≡ Some p = ap (position_of number) (sym within.subscribers) ∙ at.1 in
      let none : own_of number s.subscribers ≡ [] = ap (own_of number) (sym within.subscribers) ∙ at.0 in
      let value : slice_get (values s) p ≡ Some x = same_value (fields_of i) s number p within c.self.invariant.reset_mark here ∙ at.2 in
      let all = next_value number p x s none here value in (
        rw c.in-Err.ensures.receives.3 (next_wants_memory number x s (settle (advance number (p + 1) s)) none all),
        subst (λ u. StandsFor (fields_of (record i { subscribers = u })) s) (sym c.in-Err.ensures.receives.4) within,
      ),
  ap (λ u. fields_of (record c.self.inside { subscribers = u })) c.in-Err.ensures.receives.4 ∙ c.self.view_is,
)

pub receive-requires-clause-held : goal.receive-requires-clause-held
receive-requires-clause-held g c = c.self.invariant.held

pub invariant_of-self-in-Ok-Empty : goal.invariant_of-self-in-Ok-Empty
invariant_of-self-in-Ok-Empty g c =
    let i = c.self.inside in
    let given = subst (λ r. SubscriberReceives c.args.id.number i.values.items i.subscribers (Ok r) c.receive.new.self) c.in-Ok-Empty.field-0-is c.in-Ok-Empty.ensures.receives in
    subst (λ u. IsSound (record i { subscribers = u })) (sym given.2) c.self.invariant

pub invariant_of-self-in-Ok-Gone : goal.invariant_of-self-in-Ok-Gone
invariant_of-self-in-Ok-Gone g c =
    let i = c.self.inside in
    let given = subst (λ r. SubscriberReceives c.args.id.number i.values.items i.subscribers (Ok r) c.receive.new.self) c.in-Ok-Gone.field-0-is c.in-Ok-Gone.ensures.receives in
    subst (λ u. IsSound (record i { subscribers = u })) (sym given.2) c.self.invariant

pub invariant_of-self-in-Err : goal.invariant_of-self-in-Err
invariant_of-self-in-Err g c = subst (λ u. IsSound (record c.self.inside { subscribers = u })) (sym c.in-Err.ensures.receives.4) c.self.invariant

pub returns-in-Ok-Gone-clause-documented : goal.returns-in-Ok-Gone-clause-documented
returns-in-Ok-Gone-clause-documented g c = (
  λ s stands.
      let i = c.self.inside in
      let number = c.args.id.number in
      let given = subst (λ r. SubscriberReceives number i.values.items i.subscribers (Ok r) c.receive.new.self) c.in-Ok-Gone.field-0-is c.in-Ok-Gone.ensures.receives in
      let within : StandsFor (fields_of i) s = subst (λ k. StandsFor k s) (sym c.self.view_is) stands in
      let none : own_of number s.subscribers ≡ [] = ap (own_of number) (sym within.subscribers) ∙ given.0 in
      let nowhere : position_of number s.subscribers ≡ None = ap (position_of number) (sym within.subscribers) ∙ given.1 in
      let all = next_gone number s none nowhere in (
        sym (ap (λ a. reply_by reply.Received a.reply) all),
        subst (λ t. StandsFor (fields_of (record i { subscribers = c.receive.new.self })) t) (sym (ap (λ a. a.after) all))
            (subst (λ u. StandsFor (fields_of (record i { subscribers = u })) s) (sym given.2) within),
      ),
  tt,
)
