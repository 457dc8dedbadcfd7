use Rattle.std.proofs.Common.{nat_lt, ap, ◌∙◌}
use Rattle.flow_containers.specs.Subscribers.{Standing, is_full}
use Rattle.flow_containers.proofs.SubscribersLemmas.{blocked}
use Rattle.flow_containers.proofs.subscribers.Subscribers.is_blocked.Goals as goal

pub returns : goal.returns
returns g c =
    let s = c.self.inside in
    ap (nat_lt 0) c.at_oldest.ensures ∙ blocked s.counts.row s.counts.emitted s.floor s.members.last s.members.members c.self.invariant
    ∙ ap (λ (v : Standing _). is_full v.window v.emitted v.list) c.self.view_is
