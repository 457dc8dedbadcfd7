use Rattle.std.proofs.Common.{ℕ, List, subst}
use Rattle.flow_check.specs.Remaining.{none_placed}
use Rattle.flow_check.specs.Tables.{nodes_of, SettlesInTable}
use Rattle.flow_check.proofs.refuting.Claim.begins.Goals as goal

pub returns : goal.returns
returns g c = λ yes. subst (λ (s : g.row.M.Denot). SettlesInTable g.M.Machine.stepped g.M.Machine.may_skip g.M.Machine.is_private c.args.self.now.callers.now (nodes_of g.M.Machine.read c.args.self.now.table.now) s (none_placed c.args.self.now.callers.now)) c.in_ok-copy.ensures
    (subst (λ (p : List ℕ). SettlesInTable g.M.Machine.stepped g.M.Machine.may_skip g.M.Machine.is_private c.args.self.now.callers.now (nodes_of g.M.Machine.read c.args.self.now.table.now) c.in_ok-copy.copy p) c.in_ok-placed.ensures (c.in_ok-yes.ensures yes))
