use Rattle.std.proofs.Common.{◌≡◌, sym, ◌∙◌, subst, Some}
use Rattle.std.proofs.lemmas.Option.{same_Some}
use Rattle.flow_check.specs.Remaining.{placing}
use Rattle.flow_check.specs.Tables.{nodes_of, SettlesInTable}
use Rattle.flow_check.proofs.refuting.Claim.is_made_followed.Goals as goal

pub returns : goal.returns
returns g c = λ yes next step.
    let made : g.M.Machine.stepped c.args.node.now.state c.args.caller c.args.call.now ≡ Some c.in-Some.after = cc (c.in_ok-stepped.ensures) in
    subst (λ x. SettlesInTable g.M.Machine.stepped g.M.Machine.may_skip g.M.Machine.is_private c.args.self.now.callers.now (nodes_of g.M.Machine.read c.args.self.now.table.now) x (placing c.args.caller c.args.node.now.placed.items)) (same_Some c.in-Some.after next (sym made ∙ step)) (c.in_ok-yes.ensures yes)
