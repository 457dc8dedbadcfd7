use Rattle.std.proofs.Common.{rules, ◌≡◌, ◌%◌, ◌-◌, length, ap, ◌∙◌, arith}
use Rattle.flow_containers.proofs.PlaceLemmas.{place_before, place_round}
use Rattle.flow_containers.proofs.position_counts.PositionCounts.place_of.Goals as goal

pub returns-then-distance-self : goal.returns-then-distance-self
returns-then-distance-self g c =
    let last = ap (λ v. v.emitted) c.self.view_is in
    let long = ap (λ v. length v.row) c.self.view_is in
    record {
      place = place_before (length c.self.inside.row.items) c.self.inside.emitted c.args.position c.self.inside.end c.self.invariant.within c.self.invariant.end
          (omega (arith, last, c.requires.past)) c.if-distance-self.true
          ∙ ap (λ v. c.args.position % length v.row) c.self.view_is;
      within = omega (arith, long, c.self.invariant.within);
    }

pub returns-else-distance-self-clause-place : goal.returns-else-distance-self-clause-place
returns-else-distance-self-clause-place g c =
    let last = ap (λ v. v.emitted) c.self.view_is in
    let long = ap (λ v. length v.row) c.self.view_is in
    let places : c.len.result ≡ length c.self.inside.row.items = search rules in
    ap (λ k. k - (c.self.inside.emitted - c.args.position - c.self.inside.end)) places
    ∙ place_round (length c.self.inside.row.items) c.self.inside.emitted c.args.position c.self.inside.end c.self.invariant.within c.self.invariant.end
    (omega (arith, last, c.requires.past)) (omega (arith, last, long, c.requires.near)) c.if-distance-self.false
    ∙ ap (λ v. c.args.position % length v.row) c.self.view_is
