use Rattle.std.proofs.Common.{◌≡◌, take}
use Rattle.flow_check.specs.Subscribed.{none_subscribed}
use Rattle.flow_check.proofs.state_machine.StateMachine.new.Given as goal

abbrev pub invariant-loop-caller : goal.invariant-loop-caller
invariant-loop-caller g l = l.readers.items ≡ none_subscribed (take l._caller-index l.callers)
