use Rattle.flow_check.specs.Reached.{reached}
use Rattle.flow_check.proofs.refuting.Claim.is_settled.Goals as goal

pub returns : goal.returns
returns g c = λ yes. (reached c.in_ok-node.node, c.in_ok-node.ensures, c.in_ok-yes.ensures yes)
