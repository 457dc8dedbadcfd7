use Rattle.flow_check.specs.Tables.{nodes_of}
use Rattle.flow_check.proofs.Parts.{IsClosedBelow}
use Rattle.flow_check.proofs.refuting.Claim.is_closed.Given as goal

abbrev pub invariant-loop-place : goal.invariant-loop-place
invariant-loop-place g l = IsClosedBelow g.M.Machine.stepped g.M.Machine.may_skip g.M.Machine.is_private l.self.callers.now (nodes_of g.M.Machine.read l.self.table.now) g.M.Machine.Swapped l.place
