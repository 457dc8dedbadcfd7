use Rattle.std.proofs.Common.{◌+◌, ◌≤◌}
use Rattle.std.specs.Vec.{vec_len, vec_capacity}
use Rattle.flow_core.specs.SubId.{number_of}
use Rattle.flow_law.proofs.DrainingLemmas.{HasTaken}
use Rattle.flow_shared.specs.Attended.{AttendedAs}
use Rattle.flow_shared.specs.Drains.{CoreNexts}
use Rattle.flow_shared.proofs.drain.take_values.Given as goal

abbrev pub invariant-loop : goal.invariant-loop
invariant-loop g l = record {
  taken : HasTaken (CoreNexts g.S.FlowCore.kind (number_of l.id) (AttendedAs g.S.FlowCore.sleeping g.S.FlowCore.stands_as)) l.counter l.fn.state l.fn.values.items l.values.items l.state;
  room : vec_len l.values + l.most ≤ vec_capacity l.values + l.counter;
}
