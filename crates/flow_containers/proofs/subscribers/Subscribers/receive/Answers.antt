use Rattle.std.proofs.Common.{◌≡◌, ◌+◌, ◌-◌, ◌<◌, ◌%◌, ◌^◌, ◌==◌, ◌&&◌, length, get_or, Some, None, refl, sym, ap, subst, ◌∙◌, arith}
use Rattle.std.specs.List.{slice_get}
use Rattle.std.specs.Prelude.{Ok, Err}
use Rattle.std.proofs.lemmas.List.{length-set}
use Rattle.flow_containers.specs.declared.subscribers.receive.Received.TheVariants.{Gone, Own, Emitted, Empty}
use Rattle.flow_containers.specs.Members.{row_of, with_row}
use Rattle.flow_containers.specs.Rows.{with_own_left}
use Rattle.flow_containers.specs.PositionCounts.{one_more_at, one_less_at}
use Rattle.flow_containers.specs.Subscribers.{Standing, standing_of, AreSound}
use Rattle.flow_containers.specs.Receiving.{SubscriberReceives}
use Rattle.flow_containers.proofs.ReceivingLemmas.{found_below, position_in, putting, gone, own_left, nobody, stands_at, held_here, near_here, some_here, room_here, was_last, takes, takes_sound, none_left, stays, stays_sound, goes, goes_sound}
use Rattle.flow_containers.proofs.subscribers.Subscribers.receive.Goals as goal

pub returns-in_default-clause-receives : goal.returns-in_default-clause-receives
returns-in_default-clause-receives g c =
    let s = c.self.inside in
    let number = c.args.number in
    let none : row_of number s.members.members ≡ None = sym c.in_default.ensures.value in
    subst (λ (v : Standing _). SubscriberReceives number c.args.values.now.items v (Ok Gone) (standing_of s)) c.self.view_is
    ((nobody s number none).0, (nobody s number none).1, refl)

pub invariant_of-self-in-Some-pop_front : goal.invariant_of-self-in-Some-pop_front
invariant_of-self-in-Some-pop_front g c =
    takes_sound c.self.inside c.args.number c.in-Some.row.now (sym c.in-Some.ensures.value) c.pop_front.new.self c.self.invariant

pub returns-in-Some-pop_front-clause-receives : goal.returns-in-Some-pop_front-clause-receives
returns-in-Some-pop_front-clause-receives g c =
    let s = c.self.inside in let number = c.args.number in let row = c.in-Some.row.now in
    let found : row_of number s.members.members ≡ Some row = sym c.in-Some.ensures.value in
    let own = c.pop_front.new.self in
    subst (λ (v : Standing _). SubscriberReceives number c.args.values.now.items v (Ok (Own c.in-Some-pop_front.value)) (standing_of (putting s number (with_own_left own row)))) c.self.view_is
    (own, own_left s number row found ∙ c.in-Some-pop_front.ensures, takes s number row found own)

pub overflow_sub-position : goal.overflow_sub-position
overflow_sub-position g c =
    let held = held_here c.self.inside c.args.number c.in-Some.row.now (sym c.in-Some.ensures.value) _ (length c.args.values.now.items) c.self.view_is c.requires.held c.requires.kept in
    omega (arith, held.1, c.max-position.ensures, c.emitted.ensures, c.len.ensures.len)

pub invariant_of-self-in_default-get : goal.invariant_of-self-in_default-get
invariant_of-self-in_default-get g c =
    stays_sound c.self.inside c.args.number c.in-Some.row.now (sym c.in-Some.ensures.value) c.pop_front.new.self c.in_default-pop_front.ensures c.self.invariant

pub invariant_of-self-in-Err : goal.invariant_of-self-in-Err
invariant_of-self-in-Err g c =
    stays_sound c.self.inside c.args.number c.in-Some.row.now (sym c.in-Some.ensures.value) c.pop_front.new.self c.in_default-pop_front.ensures c.self.invariant

pub returns-in_default-get-clause-receives : goal.returns-in_default-get-clause-receives
returns-in_default-get-clause-receives g c =
    let s = c.self.inside in let number = c.args.number in let row = c.in-Some.row.now in let items = c.args.values.now.items in
    let found : row_of number s.members.members ≡ Some row = sym c.in-Some.ensures.value in
    let at : c.max-position.result - (c.emitted.result - c.len.result) ≡ position_in s number row - (s.counts.emitted - length items) =
    cc (c.max-position.ensures, c.emitted.ensures, c.len.ensures.len) in
    let own = c.pop_front.new.self in
    subst (λ (v : Standing _). SubscriberReceives number items v (Ok Empty) (standing_of (putting s number (with_own_left own row)))) c.self.view_is
    (position_in s number row, (none_left s number row found own c.in_default-pop_front.ensures, stands_at s number row found, ap (slice_get items) (sym at) ∙ sym c.in_default-get.ensures), stays s number row found own c.in_default-pop_front.ensures)

pub returns-in-Err-clause-receives : goal.returns-in-Err-clause-receives
returns-in-Err-clause-receives g c =
    let s = c.self.inside in let number = c.args.number in let row = c.in-Some.row.now in let items = c.args.values.now.items in
    let found : row_of number s.members.members ≡ Some row = sym c.in-Some.ensures.value in
    let at : c.max-position.result - (c.emitted.result - c.len.result) ≡ position_in s number row - (s.counts.emitted - length items) =
    cc (c.max-position.ensures, c.emitted.ensures, c.len.ensures.len) in
    let own = c.pop_front.new.self in
    subst (λ (v : Standing _). SubscriberReceives number items v (Err c.in-Err.fault) (standing_of (putting s number (with_own_left own row)))) c.self.view_is
    (position_in s number row, c.in-Some-get.value.now, (none_left s number row found own c.in_default-pop_front.ensures, stands_at s number row found, ap (slice_get items) (sym at) ∙ sym c.in-Some-get.ensures), c.in-Err.ensures.memory, stays s number row found own c.in_default-pop_front.ensures)

pub move_on-others-requires-clause-past : goal.move_on-others-requires-clause-past
move_on-others-requires-clause-past g c =
    let s = c.self.inside in let number = c.args.number in let row = c.in-Some.row.now in let items = c.args.values.now.items in
    let found : row_of number s.members.members ≡ Some row = sym c.in-Some.ensures.value in
    let held = held_here s number row found _ (length items) c.self.view_is c.requires.held c.requires.kept in
    let below = found_below _ items c.in-Some-get.value.now (sym c.in-Some-get.ensures) in
    omega (arith, below, held.0, held.1, c.max-position.ensures, c.emitted.ensures, c.len.ensures.len)

pub move_on-others-requires-clause-near : goal.move_on-others-requires-clause-near
move_on-others-requires-clause-near g c =
    let near = near_here c.self.inside c.args.number c.in-Some.row.now (sym c.in-Some.ensures.value) c.self.invariant in
    omega (arith, near.1, c.max-position.ensures)

pub move_on-others-requires-clause-some : goal.move_on-others-requires-clause-some
move_on-others-requires-clause-some g c =
    some_here c.self.inside c.args.number c.in-Some.row.now (sym c.in-Some.ensures.value) c.self.invariant c.max-position.result c.max-position.ensures

pub move_on-others-requires-clause-room : goal.move_on-others-requires-clause-room
move_on-others-requires-clause-room g c =
    let s = c.self.inside in let number = c.args.number in let row = c.in-Some.row.now in
    let found : row_of number s.members.members ≡ Some row = sym c.in-Some.ensures.value in
    subst (λ p. get_or (one_less_at s.counts.row p) ((p + 1) % length (one_less_at s.counts.row p)) 0 + 1 < 2 ^ 64) (sym c.max-position.ensures)
    (room_here s number row found c.self.invariant (position_in s number row + 1))

pub invariant_of-self-in-Ok : goal.invariant_of-self-in-Ok
invariant_of-self-in-Ok g c =
    let s = c.self.inside in let number = c.args.number in let row = c.in-Some.row.now in let items = c.args.values.now.items in
    let found : row_of number s.members.members ≡ Some row = sym c.in-Some.ensures.value in
    let held = held_here s number row found _ (length items) c.self.view_is c.requires.held c.requires.kept in
    let below = found_below _ items c.in-Some-get.value.now (sym c.in-Some-get.ensures) in
    let more : position_in s number row < s.counts.emitted = omega (arith, below, held.0, held.1, c.max-position.ensures, c.emitted.ensures, c.len.ensures.len) in
    let own = c.pop_front.new.self in
    let next = c.max-position.result + 1 in
    let counts = c.move_on-others.ensures.row ∙ ap (λ p. one_more_at (one_less_at s.counts.row p) (p + 1)) c.max-position.ensures in
    subst (λ e. AreSound (length c.move_on-others.new.self.row - 1) c.move_on-others.new.self.row e s.floor (with_row number (record { own = own; position = next }) s.members.members) s.members.last) (sym c.move_on-others.ensures.emitted)
    (subst (λ r. AreSound (length r - 1) r s.counts.emitted s.floor (with_row number (record { own = own; position = next }) s.members.members) s.members.last) (sym counts)
    (goes_sound s number row found own c.in_default-pop_front.ensures c.self.invariant 1 (omega (arith, more)) next (ap (λ p. p + 1) c.max-position.ensures)))

pub returns-in-Ok-clause-receives : goal.returns-in-Ok-clause-receives
returns-in-Ok-clause-receives g c =
    let s = c.self.inside in let number = c.args.number in let row = c.in-Some.row.now in let items = c.args.values.now.items in
    let found : row_of number s.members.members ≡ Some row = sym c.in-Some.ensures.value in
    let held = held_here s number row found _ (length items) c.self.view_is c.requires.held c.requires.kept in
    let below = found_below _ items c.in-Some-get.value.now (sym c.in-Some-get.ensures) in
    let more : position_in s number row < s.counts.emitted = omega (arith, below, held.0, held.1, c.max-position.ensures, c.emitted.ensures, c.len.ensures.len) in
    let at : c.max-position.result - (c.emitted.result - c.len.result) ≡ position_in s number row - (s.counts.emitted - length items) =
    cc (c.max-position.ensures, c.emitted.ensures, c.len.ensures.len) in
    let own = c.pop_front.new.self in
    let next = c.max-position.result + 1 in
    let is = ap (λ p. p + 1) c.max-position.ensures in
    let counts = c.move_on-others.new.self.row in
    let long : length counts ≡ length s.counts.row = ap length c.move_on-others.ensures.row ∙ length-set (one_less_at s.counts.row c.max-position.result) _ _ ∙ length-set s.counts.row _ _ in
    let after = gone s number row found own c.in_default-pop_front.ensures c.self.invariant 1 (omega (arith, more)) next is counts in
    let moved = goes s number row found own c.in_default-pop_front.ensures c.self.invariant 1 (omega (arith, more)) next is counts long in
    let from : c.emitted.result - c.len.result ≡ s.counts.emitted - length items = cc (c.emitted.ensures, c.len.ensures.len) in
    let flag = (c.max-position.result == (c.emitted.result - c.len.result)) && (c.move_on-others.result == 0) in
    let last = ap (λ f. (c.max-position.result == f) && (c.move_on-others.result == 0)) from
    ∙ was_last s number row found c.self.invariant more c.max-position.result (s.counts.emitted - length items) c.move_on-others.result (standing_of after).list
    c.max-position.ensures c.move_on-others.ensures.others (ap (λ (v : Standing _). v.list) moved) in
    subst (λ (v : Standing _). SubscriberReceives number items v (Ok (Emitted c.in-Ok.copy flag)) (record (standing_of after) { emitted = c.move_on-others.new.self.emitted })) c.self.view_is (
      position_in s number row,
      (none_left s number row found own c.in_default-pop_front.ensures, stands_at s number row found, ap (slice_get items) (sym at) ∙ sym c.in-Some-get.ensures ∙ ap Some (sym c.in-Ok.ensures.copy)),
      ap (λ e. record (standing_of after) { emitted = e }) c.move_on-others.ensures.emitted ∙ moved,
      last,
    )
