use Rattle.flow_check.specs.Reached.{reached}
use Rattle.flow_check.specs.Settling.{Settles}
use Rattle.flow_check.proofs.settling.settled.Given as goal

abbrev pub invariant-loop : goal.invariant-loop
invariant-loop g l = Settles g.M.Machine.stepped g.M.Machine.is_private l.callers (reached l.fn.first) (reached l.node)
