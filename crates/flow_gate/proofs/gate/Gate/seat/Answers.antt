use Rattle.std.proofs.Common.{rules}
use Rattle.flow_gate.proofs.Keeps.{makes_seat}
use Rattle.flow_gate.proofs.Seats.{idle_view}
use Rattle.flow_gate.proofs.gate.Gate.seat.Goals as goal

pub split_seat-requires : goal.split_seat-requires
split_seat-requires g c =
    let view = idle_view c.seat.inside.seat c.args.seat.now c.seat.invariant c.seat.view_is c.requires.idle in
    (search rules, search rules, makes_seat (g.S.Guarded.stands c.self.inside.table.shared.key.value) c.seat.inside.seat.id c.args.seat.now.token.knows _ view)
