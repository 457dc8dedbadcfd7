use Rattle.std.proofs.Common.{sym, ◌∙◌}
use Rattle.std.proofs.lemmas.Bool.{false≢true}
use Rattle.flow_check.proofs.refuting.Claim.is_followed.Goals as goal

pub returns : goal.returns
returns g c = λ yes. (c.in_ok-each.ensures yes, λ owes. false≢true (sym c.if-owes_nothing.false ∙ c.owes_nothing.ensures.no owes))
