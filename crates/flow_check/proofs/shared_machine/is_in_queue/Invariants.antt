use Rattle.std.proofs.Common.{◌≡◌, length}
use Rattle.flow_check.specs.SharedMachine.{is_in_queue}
use Rattle.flow_check.proofs.shared_machine.is_in_queue.Given as goal

abbrev pub invariant-loop-first : goal.invariant-loop-first
invariant-loop-first l = is_in_queue l.fn.caller l.rest ≡ is_in_queue l.fn.caller l.fn.queue

abbrev pub decreases-loop-first : goal.decreases-loop-first
decreases-loop-first l = length l.rest
