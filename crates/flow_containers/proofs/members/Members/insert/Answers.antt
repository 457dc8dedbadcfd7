use Rattle.std.proofs.Common.{◌<◌, ◌++◌, ◌∷◌, [], refl, sym, ap, subst, ◌∙◌}
use Rattle.flow_containers.specs.Members.{Membership, membership_of, EntersAt}
use Rattle.flow_containers.proofs.MembershipLemmas.{fields, inserted, entered, inserted_sound}
use Rattle.flow_containers.proofs.members.Members.insert.Goals as goal

pub returns-in-Ok-clause-key : goal.returns-in-Ok-clause-key
returns-in-Ok-clause-key g c =
    let above : c.self.inside.last < c.args.number = subst (λ (v : Membership _). v.last < c.args.number) (sym c.self.view_is) c.requires in
    subst (λ (v : Membership _). EntersAt c.args.number c.in-Ok.key v.by_key (membership_of {A = g.row.A.Denot} (fields c.insert.new.self c.args.number)).by_key) c.self.view_is
    (entered c.self.inside c.insert.new.self c.in-Ok.key c.args.number c.args.row c.self.invariant above c.in-Ok.ensures.was_vacant c.in-Ok.ensures.updates)

pub returns-in-Ok-clause-added : goal.returns-in-Ok-clause-added
returns-in-Ok-clause-added g c =
    let above : c.self.inside.last < c.args.number = subst (λ (v : Membership _). v.last < c.args.number) (sym c.self.view_is) c.requires in (
      inserted c.self.inside c.insert.new.self c.in-Ok.key c.args.number c.args.row c.self.invariant above c.in-Ok.ensures.was_vacant c.in-Ok.ensures.updates
          ∙ ap (λ (v : Membership _). v.members ++ record { number = c.args.number; row = c.args.row } ∷ []) c.self.view_is,
      refl,
    )

pub invariant_of-self : goal.invariant_of-self
invariant_of-self g c =
    let above : c.self.inside.last < c.args.number = subst (λ (v : Membership _). v.last < c.args.number) (sym c.self.view_is) c.requires in
    inserted_sound c.self.inside c.insert.new.self c.in-Ok.key c.args.number c.args.row c.self.invariant above c.in-Ok.ensures.was_vacant c.in-Ok.ensures.updates
    c.in-Ok.ensures.len
