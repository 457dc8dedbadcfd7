use Rattle.std.proofs.Common.{◌≡◌, Some, refl, sym, subst, IsSomeAnd}
use Rattle.slab.specs.Slab.{get}
use Rattle.flow_containers.proofs.MembershipLemmas.{lent_alike, row_at, row_none, replaced_sound, rewritten_membership}
use Rattle.flow_containers.proofs.members.Members.get_mut.Goals as goal

pub invariant_of-self-lent : goal.invariant_of-self-lent
invariant_of-self-lent g c = λ row.
    let at : get c.self.inside.slab c.in-Some.key ≡ Some c.in-Some-get_mut.member.now = sym c.in-Some-get_mut.ensures.value in
    replaced_sound c.self.inside c.in-Some.key c.in-Some-get_mut.member.now row c.self.invariant at

pub returns-in-Some-get_mut : goal.returns-in-Some-get_mut
returns-in-Some-get_mut g c =
    let at : get c.self.inside.slab c.in-Some.key ≡ Some c.in-Some-get_mut.member.now = sym c.in-Some-get_mut.ensures.value in
    let same : c.in-Some-get_mut.member.now.number ≡ c.args.number = subst (λ o. IsSomeAnd o (λ member. member.number ≡ c.args.number)) at c.in-Some.ensures.found in
    rw (← c.self.view_is) (
      lent_alike _ _ _ (λ row. rewritten_membership c.self.inside c.in-Some.key c.in-Some-get_mut.member.now row c.self.invariant at c.args.number same),
      record { writes_back = tt; value = sym (row_at c.self.inside c.in-Some.key c.args.number c.in-Some-get_mut.member.now c.self.invariant at same) },
    )

pub returns-in-None : goal.returns-in-None
returns-in-None g c =
    rw (← c.self.view_is) (refl, record { writes_back = tt; value = sym (row_none c.self.inside c.args.number c.self.invariant c.in-None.ensures.absent) })
