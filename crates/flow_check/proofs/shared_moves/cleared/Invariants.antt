use Rattle.std.proofs.Common.{◌≡◌, map, take}
use Rattle.flow_check.specs.SharedMachine.{cleared}
use Rattle.flow_check.proofs.shared_moves.cleared.Given as goal

abbrev pub invariant-loop-lag : goal.invariant-loop-lag
invariant-loop-lag l = l.copy.items ≡ map cleared (take l.lag-index l.lags)
