use Rattle.std.proofs.Common.{◌≡◌, refl, sym, ap, subst, ◌∙◌, IsSomeAnd}
use Rattle.std.specs.Prelude.{option_copied}
use Rattle.flow_containers.specs.Members.{Membership, row_of}
use Rattle.flow_containers.proofs.MembershipLemmas.{row_at, row_none}
use Rattle.flow_containers.proofs.members.Members.get.Goals as goal

pub returns-in_err-key : goal.returns-in_err-key
returns-in_err-key g c =
    let none = row_none c.self.inside c.args.number c.self.invariant c.in_err-key.ensures.absent ∙ refl in
    ap option_copied c.from_residual.ensures ∙ sym none ∙ ap (λ (v : Membership _). row_of c.args.number v.members) c.self.view_is

pub returns-in-Some : goal.returns-in-Some
returns-in-Some g c =
    let at = sym c.in-Some.ensures in
    sym (row_at c.self.inside c.in_ok-key.key c.args.number c.in-Some.member.now c.self.invariant at (subst (λ o. IsSomeAnd o (λ member. member.number ≡ c.args.number)) at c.in_ok-key.ensures.found))
    ∙ ap (λ (v : Membership _). row_of c.args.number v.members) c.self.view_is
