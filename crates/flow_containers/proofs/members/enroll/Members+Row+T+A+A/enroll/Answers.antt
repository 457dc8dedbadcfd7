use Rattle.std.proofs.Common.{◌≡◌, ◌<◌, ◌++◌, ◌∷◌, [], refl, sym, ap, subst, ◌∙◌}
use Rattle.slab.specs.Slab.{Slab}
use Rattle.flow_containers.specs.declared.members.Member.{Member}
use Rattle.flow_containers.specs.declared.members.enroll.Row.{Row}
use Rattle.flow_containers.specs.Members.{Membership, membership_of, EntersAt}
use Rattle.flow_containers.proofs.MembershipLemmas.{fields, inserted, entered, inserted_sound, reserved_sound}
use Rattle.flow_containers.proofs.members.enroll.Members+Row+T+A+A.enroll.Goals as goal

pub invariant_of-self-2 : goal.invariant_of-self-2
invariant_of-self-2 g c =
    let s = c.self.inside in
    let above : s.last < c.args.number = subst (λ (v : Membership _). v.last < c.args.number) (sym c.self.view_is) c.requires in
    let sound = reserved_sound s c.reserve.new.self c.self.invariant c.reserve.ensures.rest_kept in
    inserted_sound (fields c.reserve.new.self s.last) c.insert_reserved-key.new.self c.insert_reserved-key.result c.args.number _ sound above
    c.insert_reserved-key.ensures.was_vacant c.insert_reserved-key.ensures.updates c.insert_reserved-key.ensures.len

pub returns-clause-key : goal.returns-clause-key
returns-clause-key g c =
    let s = c.self.inside in
    let above : s.last < c.args.number = subst (λ (v : Membership _). v.last < c.args.number) (sym c.self.view_is) c.requires in
    let sound = reserved_sound s c.reserve.new.self c.self.invariant c.reserve.ensures.rest_kept in
    let put = entered (fields c.reserve.new.self s.last) c.insert_reserved-key.new.self c.insert_reserved-key.result c.args.number (record { own = c.new.result; position = c.args.position }) sound above
    c.insert_reserved-key.ensures.was_vacant c.insert_reserved-key.ensures.updates in
    let same : (membership_of {A = g.row.A.Denot} (fields c.reserve.new.self s.last)).by_key ≡ c.args.self.now.by_key =
    ap (λ (slab : Slab (Member (Row _ _))). (membership_of {A = g.row.A.Denot} (fields slab s.last)).by_key) c.reserve.ensures.rest_kept ∙ ap (λ (v : Membership _). v.by_key) c.self.view_is in
    subst (λ old. EntersAt c.args.number c.insert_reserved-key.result old (membership_of {A = g.row.A.Denot} (fields c.insert_reserved-key.new.self c.args.number)).by_key) same put

pub returns-clause-added : goal.returns-clause-added
returns-clause-added g c =
    let s = c.self.inside in
    let above : s.last < c.args.number = subst (λ (v : Membership _). v.last < c.args.number) (sym c.self.view_is) c.requires in
    let sound = reserved_sound s c.reserve.new.self c.self.invariant c.reserve.ensures.rest_kept in
    let put = inserted (fields c.reserve.new.self s.last) c.insert_reserved-key.new.self c.insert_reserved-key.result c.args.number (record { own = c.new.result; position = c.args.position }) sound above
    c.insert_reserved-key.ensures.was_vacant c.insert_reserved-key.ensures.updates in
    let same : (membership_of {A = g.row.A.Denot} (fields c.reserve.new.self s.last)).members ≡ c.args.self.now.members =
    ap (λ (slab : Slab (Member (Row _ _))). (membership_of {A = g.row.A.Denot} (fields slab s.last)).members) c.reserve.ensures.rest_kept ∙ ap (λ (v : Membership _). v.members) c.self.view_is in (
      put ∙ ap (λ l. l ++ record { number = c.args.number; row = record { own = c.new.result; position = c.args.position } } ∷ []) same
          ∙ ap (λ o. c.args.self.now.members ++ record { number = c.args.number; row = record { own = o; position = c.args.position } } ∷ []) c.new.ensures,
      refl,
    )
