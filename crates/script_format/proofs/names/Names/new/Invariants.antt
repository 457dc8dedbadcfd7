use Rattle.std.proofs.Common.{◌≡◌, ◌≤◌, ◌-◌, map, replicate, vec_len}
use Rattle.script_format.specs.Checks.{no_names}
use Rattle.script_format.specs.Names.{lists_of}
use Rattle.script_format.proofs.names.Names.new.Given as goal

abbrev pub invariant-loop-alloc : goal.invariant-loop-alloc
invariant-loop-alloc l = (vec_len l.flows ≤ l.count) × (map lists_of l.flows.items ≡ replicate (vec_len l.flows) no_names)

abbrev pub decreases-loop-alloc : goal.decreases-loop-alloc
decreases-loop-alloc l = l.count - vec_len l.flows
