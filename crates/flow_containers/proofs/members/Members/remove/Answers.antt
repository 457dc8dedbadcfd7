use Rattle.std.proofs.Common.{◌≡◌, sym, ap, subst, ◌∙◌, IsSomeAnd}
use Rattle.flow_containers.specs.Members.{Membership, membership_of, row_of, without_number, take_out, OthersStay}
use Rattle.flow_containers.proofs.MemberLemmas.{without_number_absent, take_out_absent}
use Rattle.flow_containers.proofs.MembershipLemmas.{with_slab, row_at, row_none, removed, taken_out, others_stay, removed_sound}
use Rattle.flow_containers.proofs.members.Members.remove.Goals as goal

pub returns-in_err-key-clause-value : goal.returns-in_err-key-clause-value
returns-in_err-key-clause-value g c =
    let none = row_none c.self.inside c.args.number c.self.invariant c.in_err-key.ensures.absent in
    c.from_residual.ensures ∙ sym none ∙ ap (λ (v : Membership _). row_of c.args.number v.members) c.self.view_is

pub returns-in_err-key-clause-members : goal.returns-in_err-key-clause-members
returns-in_err-key-clause-members g c =
    let none = row_none c.self.inside c.args.number c.self.invariant c.in_err-key.ensures.absent in
    subst (λ (v : Membership _). v.members ≡ without_number c.args.number v.members) c.self.view_is (sym (without_number_absent c.args.number _ none))

pub returns-in_err-key-clause-one : goal.returns-in_err-key-clause-one
returns-in_err-key-clause-one g c =
    let none = row_none c.self.inside c.args.number c.self.invariant c.in_err-key.ensures.absent in
    subst (λ (v : Membership _). v.members ≡ take_out c.args.number v.members) c.self.view_is (sym (take_out_absent c.args.number _ none))

pub invariant_of-self : goal.invariant_of-self
invariant_of-self g c =
    removed_sound c.self.inside c.remove.new.self c.in_ok-key.key c.remove.result c.self.invariant c.remove.ensures.value c.remove.ensures.updates c.remove.ensures.len

pub returns-clause-value : goal.returns-clause-value
returns-clause-value g c =
    let same = subst (λ o. IsSomeAnd o (λ member. member.number ≡ c.args.number)) c.remove.ensures.value c.in_ok-key.ensures.found in
    sym (row_at c.self.inside c.in_ok-key.key c.args.number c.remove.result c.self.invariant c.remove.ensures.value same)
    ∙ ap (λ (v : Membership _). row_of c.args.number v.members) c.self.view_is

pub returns-clause-members : goal.returns-clause-members
returns-clause-members g c =
    let same : c.remove.result.number ≡ c.args.number = subst (λ o. IsSomeAnd o (λ member. member.number ≡ c.args.number)) c.remove.ensures.value c.in_ok-key.ensures.found in
    removed c.self.inside c.remove.new.self c.in_ok-key.key c.remove.result c.self.invariant c.remove.ensures.value c.remove.ensures.updates
    ∙ ap (λ n. without_number n (membership_of c.self.inside).members) same
    ∙ ap (λ (v : Membership _). without_number c.args.number v.members) c.self.view_is

pub returns-clause-one : goal.returns-clause-one
returns-clause-one g c =
    let same : c.remove.result.number ≡ c.args.number = subst (λ o. IsSomeAnd o (λ member. member.number ≡ c.args.number)) c.remove.ensures.value c.in_ok-key.ensures.found in
    taken_out c.self.inside c.remove.new.self c.in_ok-key.key c.remove.result c.self.invariant c.remove.ensures.value c.remove.ensures.updates
    ∙ ap (λ n. take_out n (membership_of c.self.inside).members) same
    ∙ ap (λ (v : Membership _). take_out c.args.number v.members) c.self.view_is

pub returns-clause-others : goal.returns-clause-others
returns-clause-others g c =
    let same : c.remove.result.number ≡ c.args.number = subst (λ o. IsSomeAnd o (λ member. member.number ≡ c.args.number)) c.remove.ensures.value c.in_ok-key.ensures.found in
    subst (λ (v : Membership _). OthersStay c.args.number v.by_key (membership_of (with_slab c.self.inside c.remove.new.self)).by_key) c.self.view_is
    (others_stay c.self.inside c.remove.new.self c.in_ok-key.key c.remove.result c.self.invariant c.remove.ensures.value c.remove.ensures.updates c.args.number same)
