use Rattle.std.proofs.Common.{◌≡◌, ◌+◌, ◌-◌, ◌≤◌, length, refl, sym, ap, subst, ◌∙◌, arith}
use Rattle.flow_law.specs.flow.SharedFlow.{raise_to}
use Rattle.flow_containers.specs.Subscribers.{Standing}
use Rattle.flow_containers.proofs.SubscribersLemmas.{standing_same, shift_room, dropped, dropped_list, length-shifted}
use Rattle.flow_containers.proofs.subscribers.Subscribers.add_dropping.Goals as goal

pub shift-requires-clause-room : goal.shift-requires-clause-room
shift-requires-clause-room g c =
    let s = c.self.inside in
    shift_room s.counts.row s.counts.emitted s.floor s.members.last s.members.members c.self.invariant (c.emitted.result - c.window.result)

pub invariant_of-self : goal.invariant_of-self
invariant_of-self g c =
    let s = c.self.inside in
    let past = subst (λ (v : Standing _). v.window ≤ v.emitted) (sym c.self.view_is) c.requires.full in
    let at : (c.emitted.result - c.window.result) + (length s.counts.row - 1) ≡ s.counts.emitted = omega (arith, c.emitted.ensures, c.window.ensures, past) in
    rw (c.add.ensures.row, c.shift.ensures.row, c.add.ensures.emitted, c.shift.ensures.emitted)
    (dropped s.counts.row s.counts.emitted s.floor s.members.last s.members.members c.self.invariant (c.emitted.result - c.window.result) at)

pub returns : goal.returns
returns g c =
    let s = c.self.inside in
    let p = c.emitted.result - c.window.result in
    let past = subst (λ (v : Standing _). v.window ≤ v.emitted) (sym c.self.view_is) c.requires.full in
    let at : (c.emitted.result - c.window.result) + (length s.counts.row - 1) ≡ s.counts.emitted = omega (arith, c.emitted.ensures, c.window.ensures, past) in
    let list = dropped_list s.counts.row s.counts.emitted s.floor s.members.last s.members.members c.self.invariant p at in
    let emitted : c.add.new.self.emitted ≡ s.counts.emitted + 1 = c.add.ensures.emitted ∙ ap (λ k. k + 1) c.shift.ensures.emitted in
    let window : length c.add.new.self.row - 1 ≡ length s.counts.row - 1 =
    ap (λ r. length r - 1) (c.add.ensures.row ∙ c.shift.ensures.row) ∙ ap (λ k. k - 1) (length-shifted s.counts.row p) in
    let floor : p + 1 ≡ s.counts.emitted + 1 - (length s.counts.row - 1) = omega (arith, at) in
    standing_same _ _ _ _ _ _ _ _ _ _ _ list emitted window floor refl
    ∙ ap (λ (v : Standing _). record v { emitted = v.emitted + 1; list = raise_to (v.emitted + 1 - v.window) v.list; floor = v.emitted + 1 - v.window }) c.self.view_is
