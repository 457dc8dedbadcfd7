use Rattle.std.proofs.Common.{◌≡◌, ◌≤◌, ◌-◌}
use Rattle.flow_core.specs.SubId.{number_of}
use Rattle.flow_law.specs.history.History.{IsSubscription}
use Rattle.flow_law.specs.history.Tokens.{numbered_token}
use Rattle.flow_law.proofs.DrainingLemmas.{HasTaken}
use Rattle.flow_shared.specs.Calls.{NextsOf}
use Rattle.flow_shared.proofs.flow.Flow.drain_by.Given as goal

abbrev pub invariant-loop-left : goal.invariant-loop-left
invariant-loop-left g l = record {
  within : l.left ≤ l.most;
  taken : HasTaken (NextsOf g.S.FlowCore.kind l.self) (l.most - l.left) (numbered_token l.fn.seat (number_of l.id)) l.fn.values.items l.values.items (numbered_token l.seat (number_of l.id));
  subscribed : IsSubscription g.S.FlowCore.kind l.seat.knows (number_of l.id);
  flow : l.seat.table_id ≡ l.self.table_id;
}

abbrev pub decreases-loop-left : goal.decreases-loop-left
decreases-loop-left g l = l.left
