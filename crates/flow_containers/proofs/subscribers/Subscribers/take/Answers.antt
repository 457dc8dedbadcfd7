use Rattle.std.proofs.Common.{◌≡◌, ◌+◌, ◌-◌, ◌<◌, ◌≤◌, ◌%◌, ◌^◌, ◌++◌, [], length, take, drop, get_or, Some, refl, sym, ap, subst, ◌∙◌, arith}
use Rattle.std.proofs.lemmas.List.{append-nil, length-set, nil_from_length}
use Rattle.flow_containers.specs.Members.{row_of, with_row}
use Rattle.flow_containers.specs.PositionCounts.{one_more_at, one_less_at}
use Rattle.flow_containers.specs.Subscribers.{Standing, standing_of, AreSound}
use Rattle.flow_containers.specs.Receiving.{TakesSome}
use Rattle.flow_containers.proofs.ReceivingLemmas.{position_in, stands_at, held_here, near_here, some_here, room_here, untouched, untouched_sound, none_left, gone, goes, goes_sound}
use Rattle.flow_containers.proofs.subscribers.Subscribers.take.Goals as goal

pub invariant_of-self-then-len-gt0 : goal.invariant_of-self-then-len-gt0
invariant_of-self-then-len-gt0 g c = untouched_sound c.self.inside c.args.number c.in-Some.row.now (sym c.in-Some.ensures.value) c.self.invariant

pub returns-then-len-gt0-clause-none : goal.returns-then-len-gt0-clause-none
returns-then-len-gt0-clause-none g c = λ _. (refl, ap standing_of (untouched c.self.inside c.args.number c.in-Some.row.now (sym c.in-Some.ensures.value)) ∙ c.self.view_is)

pub overflow_sub-position : goal.overflow_sub-position
overflow_sub-position g c =
    let held = held_here c.self.inside c.args.number c.in-Some.row.now (sym c.in-Some.ensures.value) _ (length c.args.values.now.items) c.self.view_is c.requires.held c.requires.kept in
    omega (arith, held.1, c.max-position.ensures, c.emitted.ensures, c.len-2.ensures.len)

pub copy_to-count-requires : goal.copy_to-count-requires
copy_to-count-requires g c =
    let held = held_here c.self.inside c.args.number c.in-Some.row.now (sym c.in-Some.ensures.value) _ (length c.args.values.now.items) c.self.view_is c.requires.held c.requires.kept in
    let near = near_here c.self.inside c.args.number c.in-Some.row.now (sym c.in-Some.ensures.value) c.self.invariant in
    omega (arith, held.0, near.0, c.max-position.ensures, c.emitted.ensures, c.len-2.ensures.len)

pub leave-requires-clause-near : goal.leave-requires-clause-near
leave-requires-clause-near g c =
    let near = near_here c.self.inside c.args.number c.in-Some.row.now (sym c.in-Some.ensures.value) c.self.invariant in
    omega (arith, near.1, c.max-position.ensures)

pub leave-requires-clause-some : goal.leave-requires-clause-some
leave-requires-clause-some g c =
    some_here c.self.inside c.args.number c.in-Some.row.now (sym c.in-Some.ensures.value) c.self.invariant c.max-position.result c.max-position.ensures

pub enter-requires-clause-near : goal.enter-requires-clause-near
enter-requires-clause-near g c =
    let s = c.self.inside in let number = c.args.number in let row = c.in-Some.row.now in
    let found : row_of number s.members.members ≡ Some row = sym c.in-Some.ensures.value in
    let near = near_here s number row found c.self.invariant in
    let long : length c.leave.new.self.row ≡ length s.counts.row = ap length c.leave.ensures.row ∙ length-set s.counts.row _ _ in
    omega (arith, near.1, c.max-position.ensures, long, c.leave.ensures.emitted)

pub enter-requires-clause-room : goal.enter-requires-clause-room
enter-requires-clause-room g c =
    let s = c.self.inside in let number = c.args.number in let row = c.in-Some.row.now in
    let found : row_of number s.members.members ≡ Some row = sym c.in-Some.ensures.value in
    let q = c.max-position.result + c.copy_to-count.result in
    let left = c.leave.ensures.row ∙ ap (one_less_at s.counts.row) c.max-position.ensures in
    subst (λ r. get_or r (q % length r) 0 + 1 < 2 ^ 64) (sym left)
    (room_here s number row found c.self.invariant q)

pub invariant_of-self-then-count-gt0 : goal.invariant_of-self-then-count-gt0
invariant_of-self-then-count-gt0 g c =
    let s = c.self.inside in let number = c.args.number in let row = c.in-Some.row.now in let items = c.args.values.now.items in
    let found : row_of number s.members.members ≡ Some row = sym c.in-Some.ensures.value in
    let held = held_here s number row found _ (length items) c.self.view_is c.requires.held c.requires.kept in
    let count = c.copy_to-count.result in
    let more : position_in s number row + count ≤ s.counts.emitted = omega (arith, c.copy_to-count.ensures.within, held.0, held.1, c.max-position.ensures, c.emitted.ensures, c.len-2.ensures.len) in
    let none : row.own ≡ [] = nil_from_length row.own (omega (arith, c.if-len-gt0.false, c.len.ensures)) in
    let next = c.max-position.result + count in
    let counts : c.enter.new.self.row ≡ one_more_at (one_less_at s.counts.row (position_in s number row)) (position_in s number row + count) =
    c.enter.ensures.row ∙ ap (λ r. one_more_at r next) c.leave.ensures.row ∙ ap (λ p. one_more_at (one_less_at s.counts.row p) (p + count)) c.max-position.ensures in
    let emitted : c.enter.new.self.emitted ≡ s.counts.emitted = c.enter.ensures.emitted ∙ c.leave.ensures.emitted in
    subst (λ e. AreSound (length c.enter.new.self.row - 1) c.enter.new.self.row e s.floor (with_row number (record { own = row.own; position = next }) s.members.members) s.members.last) (sym emitted)
    (subst (λ r. AreSound (length r - 1) r s.counts.emitted s.floor (with_row number (record { own = row.own; position = next }) s.members.members) s.members.last) (sym counts)
    (goes_sound s number row found row.own (none, none) c.self.invariant count more next (ap (λ p. p + count) c.max-position.ensures)))

pub invariant_of-self-else-count-gt0 : goal.invariant_of-self-else-count-gt0
invariant_of-self-else-count-gt0 g c = untouched_sound c.self.inside c.args.number c.in-Some.row.now (sym c.in-Some.ensures.value) c.self.invariant

pub returns-then-count-gt0-clause-some : goal.returns-then-count-gt0-clause-some
returns-then-count-gt0-clause-some g c = λ _.
    let s = c.self.inside in let number = c.args.number in let row = c.in-Some.row.now in let items = c.args.values.now.items in
    let found : row_of number s.members.members ≡ Some row = sym c.in-Some.ensures.value in
    let held = held_here s number row found _ (length items) c.self.view_is c.requires.held c.requires.kept in
    let count = c.copy_to-count.result in
    let more : position_in s number row + count ≤ s.counts.emitted = omega (arith, c.copy_to-count.ensures.within, held.0, held.1, c.max-position.ensures, c.emitted.ensures, c.len-2.ensures.len) in
    let none : row.own ≡ [] = nil_from_length row.own (omega (arith, c.if-len-gt0.false, c.len.ensures)) in
    let next = c.max-position.result + count in
    let is = ap (λ p. p + count) c.max-position.ensures in
    let from : c.max-position.result - (c.emitted.result - c.len-2.result) ≡ position_in s number row - (s.counts.emitted - length items) =
    cc (c.max-position.ensures, c.emitted.ensures, c.len-2.ensures.len) in
    let counts = c.enter.new.self.row in
    let left : length c.leave.new.self.row ≡ length s.counts.row = ap length c.leave.ensures.row ∙ length-set s.counts.row _ _ in
    let long : length counts ≡ length s.counts.row = ap length c.enter.ensures.row ∙ length-set c.leave.new.self.row _ _ ∙ left in
    let after = gone s number row found row.own (none, none) c.self.invariant count more next is counts in
    let moved = goes s number row found row.own (none, none) c.self.invariant count more next is counts long in
    let emitted : c.enter.new.self.emitted ≡ s.counts.emitted = c.enter.ensures.emitted ∙ c.leave.ensures.emitted in
    subst (λ (v : Standing _). TakesSome number items v c.args.list.now.items count c.copy_to-count.new.list.items (record (standing_of after) { emitted = c.enter.new.self.emitted })) c.self.view_is (
      position_in s number row,
      none_left s number row found row.own (none, none),
      stands_at s number row found,
      more,
      c.copy_to-count.ensures.copied ∙ ap (λ n. c.args.list.now.items ++ take count (drop n items)) from,
      ap (λ e. record (standing_of after) { emitted = e }) emitted ∙ moved,
    )

pub returns-else-count-gt0-clause-none : goal.returns-else-count-gt0-clause-none
returns-else-count-gt0-clause-none g c = λ none.
    let same = ap standing_of (untouched c.self.inside c.args.number c.in-Some.row.now (sym c.in-Some.ensures.value)) ∙ c.self.view_is in
    (c.copy_to-count.ensures.copied ∙ ap (λ n. c.args.list.now.items ++ take n (drop (c.max-position.result - (c.emitted.result - c.len-2.result)) c.args.values.now.items)) none ∙ append-nil c.args.list.now.items, same)
