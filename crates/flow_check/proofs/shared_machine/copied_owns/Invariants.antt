use Rattle.std.proofs.Common.{◌≡◌, take}
use Rattle.flow_check.proofs.shared_machine.copied_owns.Given as goal

abbrev pub invariant-loop-own : goal.invariant-loop-own
invariant-loop-own l = l.copy.items ≡ take l.own-index l.owns
