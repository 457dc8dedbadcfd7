use Rattle.std.proofs.Common.{ℕ, List, ap, ◌∙◌, subst}
use Rattle.flow_check.specs.Remaining.{placing}
use Rattle.flow_check.specs.Tables.{nodes_of, SettlesInTable}
use Rattle.flow_check.proofs.refuting.Claim.is_placed.Goals as goal

pub returns : goal.returns
returns g c = λ yes.
    let grown = c.place.ensures c.if-not-place.false ∙ ap (placing c.args.caller) (c.in_ok-placed.ensures.items ∙ c.as_slice.ensures.value) in
    subst (λ (p : List ℕ). SettlesInTable g.M.Machine.stepped g.M.Machine.may_skip g.M.Machine.is_private c.args.self.now.callers.now (nodes_of g.M.Machine.read c.args.self.now.table.now) c.args.after p) grown (c.in_ok-yes.ensures yes)
