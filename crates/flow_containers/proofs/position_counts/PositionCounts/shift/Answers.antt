use Rattle.std.proofs.Common.{length, get_or, ap, ◌∙◌, arith}
use Rattle.flow_containers.proofs.PlaceLemmas.{place_of_next}
use Rattle.flow_containers.proofs.position_counts.PositionCounts.shift.Goals as goal

pub overflow_add-count : goal.overflow_add-count
overflow_add-count g c =
    let row = c.args.self.now.row in
    let place = c.place_of-place.ensures.place in
    let further = c.place_after-further.ensures.place ∙ place_of_next (length row) c.args.position c.place_of-place.result place in
    let here = c.count.ensures ∙ ap (λ k. get_or row k 0) place in
    let there = c.count-2.ensures ∙ ap (λ k. get_or row k 0) further in
    omega (arith, here, there, c.requires.room)

pub returns-clause-row : goal.returns-clause-row
returns-clause-row g c =
    let row = c.args.self.now.row in
    let place = c.place_of-place.ensures.place in
    let further = c.place_after-further.ensures.place ∙ place_of_next (length row) c.args.position c.place_of-place.result place in
    let here = c.count.ensures ∙ ap (λ k. get_or row k 0) place in
    let there = c.count-2.ensures ∙ ap (λ k. get_or row k 0) further in
    cc (c.set_count-2.ensures.row, c.set_count.ensures.row, place, further, here, there)
