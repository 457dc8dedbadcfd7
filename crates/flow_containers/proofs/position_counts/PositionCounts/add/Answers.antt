use Rattle.std.proofs.Common.{◌+◌, ◌%◌, length, sym, ap, ◌∙◌, arith}
use Rattle.flow_containers.proofs.PlaceLemmas.{place_of_next}
use Rattle.flow_containers.proofs.position_counts.PositionCounts.add.Goals as goal

pub invariant_of-self : goal.invariant_of-self
invariant_of-self g c = record {
  within = omega (arith, c.place_after-self-inside.ensures.within, ap (λ v. length v.row) c.self.view_is);
  end = c.place_after-self-inside.ensures.place ∙ ap (λ v. (c.self.inside.end + 1) % length v.row) (sym c.self.view_is)
      ∙ place_of_next (length c.self.inside.row.items) c.self.inside.emitted c.self.inside.end c.self.invariant.end;
}
