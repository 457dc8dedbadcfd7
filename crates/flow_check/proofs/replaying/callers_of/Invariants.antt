use Rattle.std.proofs.Common.{◌≡◌, map, take}
use Rattle.flow_check.proofs.Parts.{caller_of}
use Rattle.flow_check.proofs.replaying.callers_of.Given as goal

abbrev pub invariant-loop-turn : goal.invariant-loop-turn
invariant-loop-turn l = l.callers.items ≡ map caller_of (take l.turn-index l.order)
