use Rattle.std.proofs.Common.{◌≡◌, ◌+◌, ◌-◌, ◌<◌, ◌≤◌, [], length, None, Some, sym, ap, ◌∙◌, subst, refl, arith}
use Rattle.std.specs.Prelude.{Ok}
use Rattle.std.specs.Option.{IfSome}
use Rattle.std.proofs.lemmas.List.{nil_from_length}
use Rattle.flow_law.specs.declared.outcome.Drained.TheVariants.{Most}
use Rattle.flow_law.specs.flow.Draining.{DrainsBy}
use Rattle.flow_law.specs.flow.SharedFlow.{position_of, move_to}
use Rattle.flow_law.specs.flow.Covering.{Covers, kept_start}
use Rattle.flow_law.proofs.CoveringLemmas.{least_position-move_to}
use Rattle.flow_law.proofs.HoldingLemmas.{covers}
use Rattle.flow_core.specs.SubId.{number_of}
use Rattle.flow_core.specs.SharedCore.{window_of, fields_of, IsSound, SharedCoreNexts}
use Rattle.flow_core.proofs.RingLemmas.{least_at, within_at, within-moved}
use Rattle.flow_core.proofs.SoundLemmas.{sound_subscribers}
use Rattle.flow_core.proofs.TakingLemmas.{drains_none, taken_at_once}
use Rattle.flow_core.proofs.shared.SharedCore.take_held.Goals as goal

pub returns-then-len-gt0-clause-taken : goal.returns-then-len-gt0-clause-taken
returns-then-len-gt0-clause-taken g c = drains_none (SharedCoreNexts (number_of c.args.id)) c.args.self.now c.args.values.now.items

pub take-taken-requires-clause-held : goal.take-taken-requires-clause-held
take-taken-requires-clause-held g c = c.self.invariant.held

pub take-taken-requires-clause-kept : goal.take-taken-requires-clause-kept
take-taken-requires-clause-kept g c =
    let i = c.self.inside in
    let number = c.args.id.number in
    elim (position_of number i.subscribers.list) as (λ o. position_of number i.subscribers.list ≡ o → IfSome o (λ p. i.subscribers.emitted - length i.values.items ≤ p)) [
      | None ↦ λ at. tt
      | Some p ↦ λ at. omega (arith, least_at (kept_start (fields_of i)) number p i.subscribers.list at, c.self.invariant.enough)
    ] refl

pub invariant_of-self : goal.invariant_of-self
invariant_of-self g c = subst (λ u. IsSound (record c.self.inside { subscribers = u })) (sym (c.take-taken.ensures.none c.if-taken-eq0.true).1) c.self.invariant

pub returns-then-taken-eq0-clause-taken : goal.returns-then-taken-eq0-clause-taken
returns-then-taken-eq0-clause-taken g c =
    let i = c.self.inside in
    let nexts = SharedCoreNexts (number_of c.args.id) in
    let list = c.args.values.now.items in
    let none = c.take-taken.ensures.none c.if-taken-eq0.true in
    let same = ap (λ u. fields_of (record i { subscribers = u })) none.1 ∙ c.self.view_is in
    subst (λ k. DrainsBy nexts 0 c.args.self.now list (Ok Most) c.take-taken.new.list.items k) (sym same)
    (subst (λ l. DrainsBy nexts 0 c.args.self.now list (Ok Most) l c.args.self.now) (sym none.0) (drains_none nexts c.args.self.now list))

pub invariant_of-self-2 : goal.invariant_of-self-2
invariant_of-self-2 g c =
    let i = c.self.inside in
    let number = c.args.id.number in
    let count = c.take-taken.result in
    let given = c.take-taken.ensures.some (omega (arith, c.if-taken-eq0.false)) in
    let p = given.0 in
    let at = given.2 in
    let more = given.3 in
    let moved = given.5 in
    let stood = within_at i.subscribers.floor i.subscribers.emitted (window_of i.config) number p i.subscribers.list c.self.invariant.within at in
    let later : IfSome (position_of number i.subscribers.list) (λ q. q ≤ p + count) = rw at (omega arith) in
    subst (λ u. IsSound (record i { subscribers = u })) (sym moved)
    (sound_subscribers i (move_to number (p + count) i.subscribers.list) i.subscribers.floor c.self.invariant
    (within-moved i.subscribers.floor i.subscribers.emitted (window_of i.config) number (p + count) i.subscribers.list c.self.invariant.within (omega (arith, stood.0)) more (omega (arith, stood.2)))
    c.self.invariant.floor (least_position-move_to (kept_start (fields_of i)) number (p + count) i.subscribers.list later))

pub returns-clause-taken : goal.returns-clause-taken
returns-clause-taken g c =
    let i = c.self.inside in
    let core = fields_of i in
    let number = c.args.id.number in
    let count = c.take-taken.result in
    let some : 0 < count = omega (arith, c.if-taken-eq0.false) in
    let given = c.take-taken.ensures.some some in
    let p = given.0 in
    let none = given.1 in
    let at = given.2 in
    let more = given.3 in
    let longer = given.4 in
    let moved = given.5 in
    let idle : i.queue ≡ [] = nil_from_length i.queue (omega (arith, c.if-len-gt0.false, c.len.ensures)) in
    let low : i.subscribers.emitted - length i.values.items ≤ p = omega (arith, least_at (kept_start core) number p i.subscribers.list at, c.self.invariant.enough) in
    subst (λ k. DrainsBy (SharedCoreNexts number) count k c.args.values.now.items (Ok Most) c.take-taken.new.list.items c.trim.new.self) c.self.view_is
    (taken_at_once core number p c.self.invariant.reset_mark c.self.invariant.held idle none at count c.trim.new.self c.args.values.now.items c.take-taken.new.list.items (covers core) low more some longer
    (λ s covered. c.trim.ensures s (subst (λ u. Covers (fields_of (record i { subscribers = u })) s) (sym moved) covered)))

pub returns-then-taken-eq0-clause-room : goal.returns-then-taken-eq0-clause-room
returns-then-taken-eq0-clause-room g c = let room = c.take-taken.ensures.room in (omega (arith, room.0, c.if-taken-eq0.true), room.1)
