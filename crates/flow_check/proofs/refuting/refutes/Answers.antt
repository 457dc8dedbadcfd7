use Rattle.flow_check.proofs.Closing.{none_goes}
use Rattle.flow_check.specs.Remaining.{none_placed}
use Rattle.flow_check.specs.Tables.{nodes_of}
use Rattle.flow_check.proofs.refuting.refutes.Goals as goal

pub returns : goal.returns
returns g c = λ yes order. none_goes g.M.Machine.stepped g.M.Machine.may_skip g.M.Machine.is_private g.M.Machine.IsSound c.requires.early.1 g.M.Machine.Ahead c.requires.early.2 g.M.Machine.Swapped c.requires.swapped c.args.callers.now c.requires.well
    (nodes_of g.M.Machine.read c.args.table.now) (c.in_ok-closed.ensures yes) order c.args.first.now (none_placed c.args.callers.now) c.requires.early.0 (c.in_ok-yes.ensures c.if-not-yes.false)
