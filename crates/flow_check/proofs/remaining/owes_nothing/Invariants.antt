use Rattle.flow_check.proofs.Parts.{OwesNothingBelow}
use Rattle.flow_check.proofs.remaining.owes_nothing.Given as goal

abbrev pub invariant-loop-caller : goal.invariant-loop-caller
invariant-loop-caller g l = OwesNothingBelow l.callers l.caller l.placed.items
