use Rattle.std.proofs.Common.{rules, Some, None, ◌≡◌, false, [], ◌∷◌, ◌++◌, map, sym, ap, ◌∙◌}
use Rattle.flow_gate.specs.declared.view.SeatView.{SeatView}
use Rattle.flow_gate.specs.View.{seat_view}
use Rattle.flow_law.specs.history.Growth.{sees}
use Rattle.flow_gate.proofs.Keeps.{spares, joins_seats, observes_from, parts_seats}
use Rattle.flow_gate.proofs.Seats.{me_of, idle_view}
use Rattle.flow_gate.proofs.gate.Gate.meet_from.Goals as goal

pub split_seat-without_token-requires : goal.split_seat-without_token-requires
split_seat-without_token-requires g c = (search rules, search rules, spares (g.S.Guarded.stands c.self.inside.table.shared.key.value) c.one.inside.seat.id _)

pub join_seat-requires : goal.join_seat-requires
join_seat-requires g c =
    let t = c.args.one.now.token.knows in let u = c.args.other.now.token.knows in
    let seat = c.replace-seat.result in
    let one = ap (λ m. m.0) c.split_seat-without_token.ensures.2 ∙ idle_view c.one.inside.seat c.args.one.now c.one.invariant c.one.view_is c.requires.idle.0 in
    let other = ap (λ s. s.me.0) c.replace-seat.ensures.value ∙ idle_view c.other.inside.seat c.args.other.now c.other.invariant c.other.view_is c.requires.idle.1 in
    let empty = ap (λ s. s.me.1) c.replace-seat.ensures.value ∙ ap (λ m. m.1) (me_of c.other.inside.seat c.args.other.now c.other.invariant c.other.view_is None c.requires.idle.1) in (
      search rules,
      search rules,
      empty,
      search rules,
      joins_seats (g.S.Guarded.stands c.self.inside.table.shared.key.value) c.split_seat-without_token.new.seat.id t _ one seat.id u _ other,
    )

pub load-requires : goal.load-requires
load-requires g c =
    let first = c.requires.first ∙ ap (λ z. Some z.first) (sym c.self.view_is) in
    (search rules, search rules, observes_from g.S.Guarded.stands c.self.inside.table.shared.key.value g.B.StartsFrom.first first _ _ _ (ap (λ m. m.0.holds) c.join_seat.ensures.2))

pub split_seat-requires : goal.split_seat-requires
split_seat-requires g c =
    let t = c.args.one.now.token.knows in let u = c.args.other.now.token.knows in
    let one = ap (λ m. m.0) c.split_seat-without_token.ensures.2 ∙ idle_view c.one.inside.seat c.args.one.now c.one.invariant c.one.view_is c.requires.idle.0 in
    let other = ap (λ s. s.me.0) c.replace-seat.ensures.value ∙ idle_view c.other.inside.seat c.args.other.now c.other.invariant c.other.view_is c.requires.idle.1 in
    let observed = c.load.ensures.2 in let h = observed.0 in
    let joined : c.join_seat.new.seat.me.0 ≡ seat_view (t ∷ u ∷ []) false = ap (λ m. m.0) c.join_seat.ensures.2 ∙ (λ i. seat_view ((one i).known ++ (other i).known) false) in
    let both : c.load.new.seat.me.0 ≡ seat_view (sees h t ∷ sees h u ∷ []) false = ap (λ m. m.0) observed.4 ∙ ap (λ (v : SeatView g.row.S-Said.Denot). seat_view (map (sees h) v.known) v.holds) joined in
    (search rules, search rules, parts_seats (g.S.Guarded.stands c.self.inside.table.shared.key.value) c.load.new.seat.id (sees h t) _ (sees h u) both)
