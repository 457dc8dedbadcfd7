use Rattle.std.proofs.Common.{◌%◌, length, get_or, ap, ◌∙◌}
use Rattle.flow_containers.proofs.PlaceLemmas.{place_of_next}
use Rattle.flow_containers.proofs.position_counts.PositionCounts.at_oldest.Goals as goal

pub returns : goal.returns
returns g c =
    let end = c.self.invariant.end ∙ ap (λ v. v.emitted % length v.row) c.self.view_is in
    c.count.ensures ∙ ap (λ k. get_or c.args.self.now.row k 0)
    (c.place_after.ensures.place ∙ place_of_next (length c.args.self.now.row) c.args.self.now.emitted c.self.inside.end end)
