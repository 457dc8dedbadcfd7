use Rattle.std.proofs.Common.{ap, inl, inr, ◌∙◌, ◌≡◌, subst, sym, Some, IsSomeAnd, rules}
use Rattle.slab.specs.Slab.{get}
use Rattle.slab.proofs.SlabLemmas.{Contains-cons, Contains-cons_cases, Contains-entries}
use Rattle.flow_containers.proofs.members.key_of.Goals as goal

pub loop-key-init : goal.loop-key-init
loop-key-init g c =
    let left = c.into_iter-key-iterator.ensures.into_iter_gives ∙ c.iter-key-items.ensures.rest in (
      tt,
      tt,
      λ key member found same. rw left ((Contains-entries c.args.slab.now key member).1 found),
      λ key member there. (Contains-entries c.args.slab.now key member).0 (rw left at there),
    )

pub loop-key-preserved : goal.loop-key-preserved
loop-key-preserved g c =
    let at = c.in-Some-2.ensures.steps in (
      tt,
      tt,
      λ key member found bears. elim (Contains-cons_cases _ _ _ (rw at at (c.loop-key.invariant.2 key member found bears))) [
        | inl same ↦ elim (c.if-member-number-2.false (ap (λ e. e.1.number) same ∙ bears)) [ ]
        | inr rest ↦ rest
      ],
      λ key member there. c.loop-key.invariant.3 key member (rw at (Contains-cons _ _ _ there)),
    )

pub returns-then-member-number-2-clause-found : goal.returns-then-member-number-2-clause-found
returns-then-member-number-2-clause-found g c =
    let found : get c.args.slab.now c.in-Some-2.key ≡ Some c.in-Some-2.member.now = c.loop-key.invariant.3 c.in-Some-2.key c.in-Some-2.member.now (rw c.in-Some-2.ensures.steps (search rules)) in
    subst (λ o. IsSomeAnd o (λ member. member.number ≡ c.args.number)) (sym found) c.if-member-number-2.true
