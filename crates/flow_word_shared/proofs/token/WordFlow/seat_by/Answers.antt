use Rattle.std.proofs.Common.{rules, ◌≡◌, ◌≤◌, [], ◌∷◌, map, length, Some, None, refl, sym, ap, subst, ◌∙◌, arith}
use Rattle.flow_law.specs.history.Growth.{makes}
use Rattle.flow_word_shared.specs.Steps.{IsAt, MeOf, log_after}
use Rattle.flow_word_shared.specs.Tokens.{post_of_reads}
use Rattle.flow_word_shared.specs.View.{only, reading_at, ring_with_knows}
use Rattle.flow_word_shared.proofs.Told.{placed_as}
use Rattle.flow_word_shared.proofs.SeatSteps.{making}
use Rattle.flow_word_shared.proofs.token.WordFlow.seat_by.Goals as goal

pub split_seat-requires : goal.split_seat-requires
split_seat-requires g c = let r = c.subscription.invariant.0.0 in (search rules, search rules, making _ _ _ _ _ _ (ap (λ m. m.0) r.0.0) r.0.1)

pub invariant_of-subscription : goal.invariant_of-subscription
invariant_of-subscription g c =
    let T = g.row.T.Denot in let s = c.subscription.inside in let r = c.subscription.invariant.0.0 in let at = r.2 in
    let is = c.split_seat.ensures.2 ∙ (λ i. (map (ring_with_knows makes) (r.0.0 i).0, (r.0.0 i).1)) in (
      (
        subst (λ (m : MeOf T). ((m ≡ (only m.0 ∷ [], [])) × ((only m.0).hold ≡ None)) × ((only m.0).reads ≡ Some (reading_at (post_of_reads (only m.0).reads) s.number s.position []))
            × IsAt (only m.0).start (only m.0).knows s.number s.position × (s.seen ≤ length (log_after (only m.0).start (only m.0).knows.seen))) (sym is)
            ((refl, refl), r.1, record { given = at.given; stands = at.stands }, r.3),
        placed_as s.place s.seat c.split_seat.new.seat s.seen (ap (λ m. (only m.0).reads) is) (ap (λ m. (only m.0).start) is) (let e = ap (λ m. length (log_after (only m.0).start (only m.0).knows.seen)) is in omega (arith, e)) c.subscription.invariant.0.1,
      ),
      c.subscription.invariant.1,
      c.subscription.invariant.2,
    )
