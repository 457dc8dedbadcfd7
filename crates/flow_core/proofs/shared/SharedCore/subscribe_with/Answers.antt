use Rattle.std.proofs.Common.{◌≡◌, ◌∙◌, ◌+◌, ◌++◌, ◌∷◌, [], false, not, map, refl, sym, ap, subst, arith}
use Rattle.flow_law.specs.declared.call.SharedReply.TheVariants as reply
use Rattle.flow_law.specs.flow.SharedFlow.{answer, is_exhausted}
use Rattle.flow_law.specs.flow.SharedStep.{subscribe, enroll}
use Rattle.flow_law.specs.flow.SharedHistory.{reply_by, is_refused}
use Rattle.flow_law.specs.flow.Standing.{StandsFor}
use Rattle.flow_law.specs.flow.Covering.{kept_start, kept_need}
use Rattle.flow_law.proofs.Rows.{rises_higher}
use Rattle.flow_law.proofs.CoveringLemmas.{least_position-append}
use Rattle.flow_law.proofs.HoldingLemmas.{covers, stands-enroll}
use Rattle.flow_core.specs.SharedCore.{window_of, fields_of, IsSound}
use Rattle.flow_core.proofs.CallLemmas.{not_exhausted, issued_now, refused_number}
use Rattle.flow_core.proofs.RingLemmas.{within_least, floor_least, within-snoc}
use Rattle.flow_core.proofs.SoundLemmas.{sound_standing}
use Rattle.flow_core.proofs.shared.SharedCore.subscribe_with.Goals as goal

pub push-requires-clause-above : goal.push-requires-clause-above
push-requires-clause-above g c =
    let i = c.self.inside in
    let need = ap kept_need c.self.view_is in
    omega (arith, need, c.entry-position.ensures.within, floor_least i.subscribers.floor i.subscribers.emitted (window_of i.config) (kept_start (fields_of i)) i.subscribers.list c.self.invariant.within c.self.invariant.floor)

pub push-requires-clause-within : goal.push-requires-clause-within
push-requires-clause-within g c =
    let i = c.self.inside in
    let need = ap kept_need c.self.view_is in
    let count = ap (λ core. core.appended) c.self.view_is in
    let window = c.self.invariant.window in (
      omega (arith, count, c.entry-position.ensures.within),
      omega (arith, need, window, c.entry-position.ensures.within, within_least i.subscribers.floor i.subscribers.emitted (window_of i.config) (kept_start (fields_of i)) i.subscribers.list c.self.invariant.within (omega arith)),
    )

pub invariant_of-self : goal.invariant_of-self
invariant_of-self g c =
    let i = c.self.inside in
    let number = i.issued + 1 in
    let position = c.entry-position.result in
    let need = ap kept_need c.self.view_is in
    let count = ap (λ core. core.appended) c.self.view_is in
    let issued = c.self.invariant.issued in
    let low = floor_least i.subscribers.floor i.subscribers.emitted (window_of i.config) (kept_start (fields_of i)) i.subscribers.list c.self.invariant.within c.self.invariant.floor in
    let near = within_least i.subscribers.floor i.subscribers.emitted (window_of i.config) (kept_start (fields_of i)) i.subscribers.list c.self.invariant.within (omega arith) in
    let joined = least_position-append (kept_start (fields_of i)) i.subscribers.list (record { number = number; own = c.args.first.items; position = position }) in
    subst (λ u. IsSound (record i { subscribers = u; issued = number })) (sym c.in-Ok.ensures.added)
    (sound_standing i (i.subscribers.list ++ record { number = number; own = c.args.first.items; position = position } ∷ []) number i.subscribers.floor number c.push.new.self.by_key c.self.invariant
    (within-snoc i.subscribers.floor i.subscribers.emitted (window_of i.config) i.subscribers.list (record { number = number; own = c.args.first.items; position = position }) c.self.invariant.within
    (omega (arith, need, c.entry-position.ensures.within, low)) (omega (arith, count, c.entry-position.ensures.within)) (omega (arith, need, c.entry-position.ensures.within, near)))
    c.self.invariant.floor (omega (arith, joined, need, c.entry-position.ensures.within)) (omega arith) (omega arith) (omega (arith, issued, c.if-self.false))
    (rises_higher 0 i.issued number (map (λ q. q.number) i.queue) (omega arith) c.self.invariant.rising))

pub returns-in-Ok-clause-documented : goal.returns-in-Ok-clause-documented
returns-in-Ok-clause-documented g c = λ name. (
  λ s stands.
      let i = c.self.inside in
      let first = c.args.first.items in
      let within : StandsFor (fields_of i) s = subst (λ k. StandsFor k s) (sym c.self.view_is) stands in
      let left : is_exhausted s ≡ false = not_exhausted (fields_of i) s (covers (fields_of i) s within) c.if-self.false in
      let all : subscribe first s ≡ answer (s.issued + 1) (enroll first s) = issued_now s _ left in
      let joined = stands-enroll (fields_of i) s first c.entry-position.result within (c.entry-position.ensures.shown s (covers c.args.self.now s stands)) in (
        ap reply.Subscribed (ap (λ n. n + 1) within.issued) ∙ sym (ap (λ a. reply_by reply.Subscribed a.reply) all),
        subst (λ t. StandsFor (fields_of (record i { subscribers = c.push.new.self; issued = i.issued + 1 })) t) (sym (ap (λ a. a.after) all))
            (subst (λ u. StandsFor (fields_of (record i { subscribers = u; issued = i.issued + 1 })) (enroll first s)) (sym c.in-Ok.ensures.added) joined),
      ),
  tt,
)

pub returns-then-self-clause-documented : goal.returns-then-self-clause-documented
returns-then-self-clause-documented g c = λ name. (
  λ s stands.
      let none = sym (ap (λ core. core.issued) c.self.view_is) ∙ c.if-self.true ∙ ap (λ core. core.config.limit) c.self.view_is in
      (refused_number reply.Subscribed c.args.self.now s (subscribe c.args.first.items s) _ (covers c.args.self.now s stands) none refl, stands),
  refl,
)

pub invariant_of-self-in-Err : goal.invariant_of-self-in-Err
invariant_of-self-in-Err g c = subst (λ u. IsSound (record c.self.inside { subscribers = u })) (sym c.in-Err.ensures.added.1) c.self.invariant

pub returns-in-Err-clause-documented : goal.returns-in-Err-clause-documented
returns-in-Err-clause-documented g c = λ name. (
  λ s stands.
      let i = c.self.inside in
      let first = c.args.first.items in
      let within : StandsFor (fields_of i) s = subst (λ k. StandsFor k s) (sym c.self.view_is) stands in
      let all : subscribe first s ≡ answer (s.issued + 1) (enroll first s) = issued_now s _ (not_exhausted (fields_of i) s (covers (fields_of i) s within) c.if-self.false) in (
        sym (ap (λ a. not (is_refused {T = g.row.T.Denot} (reply_by reply.Subscribed a.reply))) (sym all)),
        subst (λ u. StandsFor (fields_of (record i { subscribers = u })) s) (sym c.in-Err.ensures.added.1) within,
      ),
  ap (λ u. fields_of (record c.self.inside { subscribers = u })) c.in-Err.ensures.added.1 ∙ c.self.view_is,
)
