use Rattle.std.proofs.Common.{◌≡◌, ◌+◌, ◌-◌, ◌%◌, length, get_or, sym, ap, ◌∙◌, arith}
use Rattle.std.proofs.lemmas.List.{length-set}
use Rattle.flow_containers.specs.PositionCounts.{one_less_at}
use Rattle.flow_containers.proofs.PlaceLemmas.{place_of_next}
use Rattle.flow_containers.proofs.position_counts.PositionCounts.move_on.Goals as goal

pub overflow_add-count : goal.overflow_add-count
overflow_add-count g c =
    let row = c.args.self.now.row in
    let p = c.args.position in
    let place = c.place_of-place.ensures.place in
    let left : c.set_count.new.self.row ≡ one_less_at row p = cc (c.set_count.ensures.row, c.count-others.ensures, place) in
    let next = c.place_after-next.ensures.place ∙ place_of_next (length row) p c.place_of-place.result place ∙ ap (λ k. (p + 1) % k) (sym (length-set row (p % length row) (get_or row (p % length row) 0 - 1))) in
    let there : c.count.result ≡ get_or (one_less_at row p) ((p + 1) % length (one_less_at row p)) 0 = cc (c.count.ensures, left, next) in
    omega (arith, there, c.requires.room)

pub returns-clause-row : goal.returns-clause-row
returns-clause-row g c =
    let row = c.args.self.now.row in
    let p = c.args.position in
    let place = c.place_of-place.ensures.place in
    let left : c.set_count.new.self.row ≡ one_less_at row p = cc (c.set_count.ensures.row, c.count-others.ensures, place) in
    let next = c.place_after-next.ensures.place ∙ place_of_next (length row) p c.place_of-place.result place ∙ ap (λ k. (p + 1) % k) (sym (length-set row (p % length row) (get_or row (p % length row) 0 - 1))) in
    let there : c.count.result ≡ get_or (one_less_at row p) ((p + 1) % length (one_less_at row p)) 0 = cc (c.count.ensures, left, next) in
    cc (c.set_count-2.ensures.row, left, next, there)
