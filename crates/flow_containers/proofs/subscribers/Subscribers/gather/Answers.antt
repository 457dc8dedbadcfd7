use Rattle.std.proofs.Common.{◌≡◌, ◌+◌, ◌-◌, length, map, refl, sym, ap, subst, ◌∙◌, arith}
use Rattle.flow_law.specs.flow.SharedFlow.{stand_at, raise_to}
use Rattle.flow_containers.specs.Subscribers.{Standing, subscribers_read, AreSound}
use Rattle.flow_containers.specs.PositionCounts.{AreWithin}
use Rattle.flow_containers.proofs.RaisedLemmas.{raise_to_last, raise_to_first}
use Rattle.flow_containers.proofs.SubscribersLemmas.{standing_same, shifted, shift_room, gathered, gathered_list, length-shifted}
use Rattle.flow_containers.proofs.subscribers.Subscribers.gather.Goals as goal

pub shift-requires-clause-room : goal.shift-requires-clause-room
shift-requires-clause-room g c =
    let s = c.self.inside in
    shift_room s.counts.row s.counts.emitted s.floor s.members.last s.members.members c.self.invariant (c.emitted-emitted.result - 1)

pub invariant_of-self : goal.invariant_of-self
invariant_of-self g c =
    let s = c.self.inside in
    let one = subst (λ (v : Standing _). v.window ≡ 1) (sym c.self.view_is) c.requires in
    let at : (c.emitted-emitted.result - 1) + 1 ≡ s.counts.emitted = omega (arith, c.emitted-emitted.ensures, c.if-emitted-gt0.true) in
    rw (c.shift.ensures.row, c.shift.ensures.emitted) (subst (λ k. AreSound (length (shifted s.counts.row (c.emitted-emitted.result - 1)) - 1) (shifted s.counts.row (c.emitted-emitted.result - 1)) s.counts.emitted k s.members.members s.members.last) (sym c.emitted-emitted.ensures)
    (gathered s.counts.row s.counts.emitted s.floor s.members.last s.members.members c.self.invariant (c.emitted-emitted.result - 1) one at))

pub returns-then-emitted-gt0 : goal.returns-then-emitted-gt0
returns-then-emitted-gt0 g c =
    let s = c.self.inside in
    let one = subst (λ (v : Standing _). v.window ≡ 1) (sym c.self.view_is) c.requires in
    let all = gathered_list s.counts.row s.counts.emitted s.floor s.members.last s.members.members c.self.invariant one in
    let window : length c.shift.new.self.row - 1 ≡ length s.counts.row - 1 =
    ap (λ r. length r - 1) c.shift.ensures.row ∙ ap (λ k. k - 1) (length-shifted s.counts.row (c.emitted-emitted.result - 1)) in
    let list : subscribers_read c.emitted-emitted.result s.members.members ≡ map (stand_at s.counts.emitted) (subscribers_read s.floor s.members.members) = ap (λ k. subscribers_read k s.members.members) c.emitted-emitted.ensures ∙ all in
    standing_same _ _ _ _ _ _ _ _ _ _ _ list c.shift.ensures.emitted window c.emitted-emitted.ensures refl
    ∙ ap (λ (v : Standing _). record v { list = map (stand_at v.emitted) v.list; floor = v.emitted }) c.self.view_is

pub returns-else-emitted-gt0 : goal.returns-else-emitted-gt0
returns-else-emitted-gt0 g c =
    let s = c.self.inside in
    let us = subscribers_read s.floor s.members.members in
    let one = subst (λ (v : Standing _). v.window ≡ 1) (sym c.self.view_is) c.requires in
    let none : s.counts.emitted ≡ 0 = omega (arith, c.emitted-emitted.ensures, c.if-emitted-gt0.false) in
    let floor : s.floor ≡ s.counts.emitted = omega (arith, c.self.invariant.floor, one, none) in
    let within : AreWithin 1 s.counts.emitted us = subst (λ k. AreWithin k s.counts.emitted us) one c.self.invariant.fits.window in
    let list : us ≡ map (stand_at s.counts.emitted) us =
    sym (raise_to_first us) ∙ ap (λ k. raise_to k us) (sym none) ∙ raise_to_last s.counts.emitted us within in
    sym c.self.view_is ∙ standing_same _ _ _ _ _ _ _ _ _ _ _ list refl refl floor refl
    ∙ ap (λ (v : Standing _). record v { list = map (stand_at v.emitted) v.list; floor = v.emitted }) c.self.view_is
