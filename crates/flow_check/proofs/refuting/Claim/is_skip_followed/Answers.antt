use Rattle.std.proofs.Common.{subst}
use Rattle.flow_check.specs.Remaining.{placing}
use Rattle.flow_check.specs.Tables.{nodes_of, SettlesInTable}
use Rattle.flow_check.proofs.refuting.Claim.is_skip_followed.Goals as goal

pub returns : goal.returns
returns g c = λ yes skip. subst (λ (s : g.row.M.Denot). SettlesInTable g.M.Machine.stepped g.M.Machine.may_skip g.M.Machine.is_private c.args.self.now.callers.now (nodes_of g.M.Machine.read c.args.self.now.table.now) s (placing c.args.caller c.args.node.now.placed.items)) c.in_ok-copy.ensures (c.in_ok-yes.ensures yes)
