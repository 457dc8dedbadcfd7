use Rattle.std.proofs.Common.{rules, Some, ap, sym, ◌∙◌}
use Rattle.flow_gate.proofs.Keeps.{enters_from}
use Rattle.flow_gate.proofs.Seats.{idle_view}
use Rattle.flow_gate.proofs.gate.Gate.try_enter_from.Goals as goal

pub compare_exchange-requires : goal.compare_exchange-requires
compare_exchange-requires g c =
    let first = c.requires.first ∙ ap (λ z. Some z.first) (sym c.self.view_is) in
    let view = idle_view c.seat.inside.seat c.args.seat.now c.seat.invariant c.seat.view_is c.requires.idle in
    (search rules, search rules, enters_from g.S.Guarded.stands c.self.inside.table.shared.key.value g.B.StartsFrom.first first _ _ _ _ view)
