use Rattle.std.proofs.Common.{◌≡◌, ◌≤◌, length, vec_capacity}
use Rattle.flow_program.specs.Callers.{Reads}
use Rattle.flow_program.proofs.crowd.receiving.receive_all.Given as goal

abbrev pub invariant-loop-received : goal.invariant-loop-received
invariant-loop-received g l =
    (l.reader.flow ≡ l.fn.reader.flow)
    × (l.reader.subscription.number ≡ l.fn.reader.subscription.number)
    × Reads l.fn.reader.subscription.number l.list.items l.fn.reader.subscription.token.knows l.reader.subscription.token.knows
    × (length l.list.items ≡ l._received)
    × (l.count ≤ vec_capacity l.list)
