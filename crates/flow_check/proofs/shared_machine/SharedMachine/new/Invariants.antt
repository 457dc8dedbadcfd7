use Rattle.std.proofs.Common.{◌≡◌, take}
use Rattle.flow_check.specs.Subscribed.{none_subscribed}
use Rattle.flow_check.specs.SharedMachine.{no_values}
use Rattle.flow_check.proofs.shared_machine.SharedMachine.new.Given as goal

abbrev pub invariant-loop-caller : goal.invariant-loop-caller
invariant-loop-caller g l =
    (l.lags.items ≡ none_subscribed (take l._caller-index l.callers)) × (l.owns.items ≡ no_values (take l._caller-index l.callers))
