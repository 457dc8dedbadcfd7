use Rattle.flow_check.specs.Reached.{reached}
use Rattle.flow_check.specs.Tables.{nodes_of}
use Rattle.flow_check.proofs.Parts.{IsCoveredBelow}
use Rattle.flow_check.proofs.refuting.Claim.is_each_covered.Given as goal

abbrev pub invariant-loop-caller : goal.invariant-loop-caller
invariant-loop-caller g l = IsCoveredBelow g.M.Machine.stepped g.M.Machine.may_skip g.M.Machine.is_private l.self.callers.now (nodes_of g.M.Machine.read l.self.table.now) g.M.Machine.Swapped l.caller (reached l.node)
