use Rattle.flow_check.proofs.Parts.{NoneOverBelow}
use Rattle.flow_check.proofs.remaining.may_come_next.Given as goal

abbrev pub invariant-loop-other : goal.invariant-loop-other
invariant-loop-other g l = NoneOverBelow l.callers l.other l.begin l.placed.items
