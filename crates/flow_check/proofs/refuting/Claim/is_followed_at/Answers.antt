use Rattle.std.proofs.Common.{sym}
use Rattle.flow_check.proofs.Parts.{followed_at}
use Rattle.flow_check.specs.Reached.{reached}
use Rattle.flow_check.specs.Tables.{nodes_of}
use Rattle.flow_check.proofs.refuting.Claim.is_followed_at.Goals as goal

pub returns : goal.returns
returns g c = λ yes. followed_at g.M.Machine.stepped g.M.Machine.may_skip g.M.Machine.is_private c.args.self.now.callers.now (nodes_of g.M.Machine.read c.args.self.now.table.now) (reached c.args.node.now) c.args.caller c.in-Some.call
    (sym c.in-Some.ensures) (c.in_ok-made.ensures c.if-not-made.false) (c.in_ok-skipped.ensures yes)
