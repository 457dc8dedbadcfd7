use Rattle.std.proofs.Common.{◌≡◌, length}
use Rattle.std.specs.Prelude.{max}
use Rattle.flow_check.specs.SharedMachine.{most_lag}
use Rattle.flow_check.proofs.shared_machine.most_lag.Given as goal

abbrev pub invariant-loop-first : goal.invariant-loop-first
invariant-loop-first l = max l.most (most_lag l.rest) ≡ most_lag l.lags

abbrev pub decreases-loop-first : goal.decreases-loop-first
decreases-loop-first l = length l.rest
