use Rattle.std.proofs.Common.{◌≡◌, ◌+◌}
use Rattle.flow_shared.proofs.Tries.{LeavesOn}
use Rattle.flow_shared.proofs.flow.Flow.unsubscribe_within.Given as goal

abbrev pub invariant-loop : goal.invariant-loop
invariant-loop g l = record {
  flow : l.subscription.token.table_id ≡ l.fn.self.table_id;
  lost : l.subscription.token.knows.lost ≡ l.fn.subscription.token.knows.lost + l.counter;
  leaves : LeavesOn g.S.FlowCore.kind l.fn.self l.fn.subscription l.subscription;
}
