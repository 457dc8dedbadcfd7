use Rattle.std.proofs.Common.{◌≡◌, false, sym, subst}
use Rattle.flow_containers.specs.Subscribers.{Standing, is_full}
use Rattle.flow_containers.proofs.SubscribersLemmas.{added}
use Rattle.flow_containers.proofs.subscribers.Subscribers.add.Goals as goal

pub invariant_of-self : goal.invariant_of-self
invariant_of-self g c =
    let s = c.self.inside in
    let free = subst (λ (v : Standing _). is_full v.window v.emitted v.list ≡ false) (sym c.self.view_is) c.requires.free in
    rw (c.add.ensures.row, c.add.ensures.emitted) (added s.counts.row s.counts.emitted s.floor s.members.last s.members.members c.self.invariant free)
