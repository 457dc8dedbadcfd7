use Rattle.std.proofs.Common.{below_more}
use Rattle.flow_check.proofs.Parts.{all_covered}
use Rattle.flow_check.specs.Reached.{reached}
use Rattle.flow_check.specs.Tables.{nodes_of}
use Rattle.flow_check.proofs.refuting.Claim.is_each_covered.Goals as goal

pub loop-caller-preserved : goal.loop-caller-preserved
loop-caller-preserved g c = below_more _ _ c.loop-caller.invariant (c.in_ok-yes.ensures c.if-not-yes.false)

pub returns : goal.returns
returns g c = λ _. all_covered g.M.Machine.stepped g.M.Machine.may_skip g.M.Machine.is_private c.args.self.now.callers.now (nodes_of g.M.Machine.read c.args.self.now.table.now) g.M.Machine.Swapped (reached c.args.node.now) c.loop-caller.caller c.loop-caller-test.false c.loop-caller.invariant
