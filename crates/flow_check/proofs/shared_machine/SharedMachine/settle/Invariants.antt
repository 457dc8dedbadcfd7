use Rattle.std.proofs.Common.{◌≡◌, length}
use Rattle.flow_check.specs.SharedMachine.{settle_kept}
use Rattle.flow_check.proofs.shared_machine.SharedMachine.settle.Given as goal

abbrev pub invariant-loop : goal.invariant-loop
invariant-loop l = settle_kept l.self ≡ settle_kept l.initial.self

abbrev pub decreases-loop : goal.decreases-loop
decreases-loop l = length l.self.queue
