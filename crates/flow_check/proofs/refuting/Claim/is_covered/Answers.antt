use Rattle.std.proofs.Common.{inr}
use Rattle.flow_check.proofs.refuting.Claim.is_covered.Goals as goal

pub returns : goal.returns
returns g c = λ yes. inr (c.in_ok-yes.ensures yes)
