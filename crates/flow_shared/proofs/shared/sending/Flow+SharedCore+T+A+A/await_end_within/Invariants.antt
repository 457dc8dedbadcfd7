use Rattle.std.proofs.Common.{◌≡◌}
use Rattle.flow_law.specs.history.History.{IsEmission}
use Rattle.flow_law.specs.flow.SharedHistory.{shared_flow}
use Rattle.flow_sleepers.specs.Waiters.{IsReadyToWait}
use Rattle.flow_shared.specs.Sending.{FindsWaiting}
use Rattle.flow_shared.proofs.shared.sending.Flow+SharedCore+T+A+A.await_end_within.Given as goal

abbrev pub invariant-loop : goal.invariant-loop
invariant-loop g l = (goal.iterator-loop g).can_next l.iterator' × (goal.iterator-loop g).is_finite l.iterator'
    × (l.seat.table_id ≡ l.fn.self.table_id) × IsReadyToWait l.waiter × IsEmission shared_flow l.seat.knows l.fn.number
    × FindsWaiting l.fn.self l.fn.number l.fn.seat l.seat
