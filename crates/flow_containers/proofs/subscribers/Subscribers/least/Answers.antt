use Rattle.std.proofs.Common.{◌+◌, ◌-◌, ◌≤◌, length, sym, ap, subst, ◌∙◌, arith}
use Rattle.flow_law.specs.flow.Standing.{least_position}
use Rattle.flow_law.proofs.CoveringLemmas.{least_position_bound}
use Rattle.flow_containers.specs.Subscribers.{Standing, subscribers_read}
use Rattle.flow_containers.proofs.CountLemmas.{least_is}
use Rattle.flow_containers.proofs.subscribers.Subscribers.least.Goals as goal

pub least-requires-clause-order : goal.least-requires-clause-order
least-requires-clause-order g c = omega (arith, c.requires.below, least_position_bound c.args.first c.args.self.now.list)

pub returns : goal.returns
returns g c =
    let s = c.self.inside in
    let from = subst (λ (v : Standing _). c.args.start ≤ least_position c.args.first v.list) (sym c.self.view_is) c.requires.below in
    let to = subst (λ (v : Standing _). c.args.first ≤ v.emitted) (sym c.self.view_is) c.requires.within.0 in
    let near = subst (λ (v : Standing _). v.emitted ≤ c.args.start + v.window) (sym c.self.view_is) c.requires.within.1 in
    sym (least_is (length s.counts.row - 1) s.counts.emitted c.args.start c.args.first c.least.result s.counts.row (subscribers_read s.floor s.members.members) c.self.invariant.fits c.least.ensures from to near)
    ∙ ap (λ (v : Standing _). least_position c.args.first v.list) c.self.view_is
