use Rattle.std.proofs.Common.{◌≡◌, map, take}
use Rattle.flow_check.specs.SharedMachine.{raised}
use Rattle.flow_check.proofs.shared_moves.raised.Given as goal

abbrev pub invariant-loop-lag : goal.invariant-loop-lag
invariant-loop-lag l = l.copy.items ≡ map (raised l.window) (take l.lag-index l.lags)
