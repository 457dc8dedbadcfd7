use Rattle.std.proofs.Common.{◌+◌, ◌<◌, ◌≤◌, ◌^◌, arith, refl, sym, subst}
use Rattle.flow_containers.specs.Subscribers.{Standing}
use Rattle.flow_containers.proofs.SubscribersLemmas.{enter_room, enrolled}
use Rattle.flow_containers.proofs.subscribers.Subscribers.push.Goals as goal

pub enter-requires-clause-room : goal.enter-requires-clause-room
enter-requires-clause-room g c =
    let s = c.self.inside in
    let above = subst (λ (v : Standing _). v.last < c.args.number) (sym c.self.view_is) c.requires.later in
    let fits : c.args.number < 2 ^ 64 = omega (arith, c.ranges.number) in
    enter_room s.counts.row s.counts.emitted s.floor s.members.last s.members.members c.self.invariant c.args.position c.args.number above fits

pub invariant_of-self : goal.invariant_of-self
invariant_of-self g c =
    let s = c.self.inside in
    let above = subst (λ (v : Standing _). v.last < c.args.number) (sym c.self.view_is) c.requires.later in
    let past = subst (λ (v : Standing _). c.args.position ≤ v.emitted) (sym c.self.view_is) c.requires.within.0 in
    let near = subst (λ (v : Standing _). v.emitted ≤ c.args.position + v.window) (sym c.self.view_is) c.requires.within.1 in
    let high = subst (λ (v : Standing _). v.floor ≤ c.args.position) (sym c.self.view_is) c.requires.above in
    let fits : c.args.number < 2 ^ 64 = omega (arith, c.ranges.number) in
    rw (c.enter.ensures.row, c.enter.ensures.emitted, c.in-Ok.ensures.added.0, c.in-Ok.ensures.added.1)
    (enrolled s.counts.row s.counts.emitted s.floor s.members.last s.members.members c.self.invariant c.args.number c.args.position
    (record { own = c.args.first.items; position = c.args.position }) refl past near high above fits)
