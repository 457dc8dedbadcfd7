use Rattle.std.proofs.Common.{◌≡◌, ◌+◌, ◌≤◌, ◌++◌, take, drop}
use Rattle.std.specs.Vec.{vec_len, vec_capacity}
use Rattle.flow_containers.proofs.subscribers.taking.copy_to.Given as goal

abbrev pub invariant-loop-taken : goal.invariant-loop-taken
invariant-loop-taken g l = record {
  items : l.list.items ≡ l.fn.list.items ++ take l.taken (drop l.fn.from l.fn.values.items);
  room : vec_len l.list + l.count ≤ vec_capacity l.list + l.taken;
  grown : (vec_len l.list ≡ vec_len l.fn.list + l.taken) × (vec_capacity l.fn.list ≤ vec_capacity l.list);
}
