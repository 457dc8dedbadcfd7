use Rattle.std.proofs.Common.{◌≡◌, ◌≤◌}
use Rattle.flow_law.specs.history.Growth.{knowledge}
use Rattle.flow_law.specs.history.Tokens.{knowing}
use Rattle.flow_gate.specs.Tokens.{idle_seat}
use Rattle.flow_gate.proofs.gate.Gate.enter_waiting.Given as goal

abbrev pub invariant-loop : goal.invariant-loop
invariant-loop g l =
    (goal.iterator-loop g).can_next l.iterator' × (goal.iterator-loop g).is_finite l.iterator'
    × (l.fn.seat.token.knows.lost ≤ l.seat.token.knows.lost)
    × (l.seat ≡ idle_seat (knowing l.fn.seat.token (knowledge l.fn.seat.token.knows.name l.fn.seat.token.knows.made l.seat.token.knows.lost l.fn.seat.token.knows.seen)))
