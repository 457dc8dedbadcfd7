use Rattle.std.proofs.Common.{◌≡◌, ◌-◌, max, length, Some, None, refl, sym, ap, ◌∙◌}
use Rattle.std.specs.Prelude.{is_some}
use Rattle.std.specs.Option.{option_map}
use Rattle.std.proofs.lemmas.List.{length-set}
use Rattle.flow_law.specs.flow.SharedFlow.{position_of, without}
use Rattle.flow_containers.specs.declared.members.enroll.Row.{Row}
use Rattle.flow_containers.specs.Members.{row_of}
use Rattle.flow_containers.specs.Subscribers.{Standing, subscribers_read}
use Rattle.flow_containers.proofs.MemberLemmas.{without_number_absent}
use Rattle.flow_containers.proofs.RaisedLemmas.{position_of-row, without-row}
use Rattle.flow_containers.proofs.SubscribersLemmas.{standing_same, found_near, leave_some, removed}
use Rattle.flow_containers.proofs.subscribers.Subscribers.remove.Goals as goal

pub leave-requires-clause-past : goal.leave-requires-clause-past
leave-requires-clause-past g c =
    let s = c.self.inside in
    let at : row_of c.args.number s.members.members ≡ Some c.in-Some.row = sym c.in-Some.ensures.value in
    let found : position_of c.args.number (subscribers_read s.floor s.members.members) ≡ Some c.max.result =
    position_of-row s.floor c.args.number s.members.members ∙ ap (option_map (λ (r : Row _ _). max r.position s.floor)) at ∙ ap Some (sym c.max.ensures) in
    (found_near s.counts.row s.counts.emitted s.floor s.members.last s.members.members c.self.invariant c.args.number c.max.result found).0

pub leave-requires-clause-near : goal.leave-requires-clause-near
leave-requires-clause-near g c =
    let s = c.self.inside in
    let at : row_of c.args.number s.members.members ≡ Some c.in-Some.row = sym c.in-Some.ensures.value in
    let found : position_of c.args.number (subscribers_read s.floor s.members.members) ≡ Some c.max.result =
    position_of-row s.floor c.args.number s.members.members ∙ ap (option_map (λ (r : Row _ _). max r.position s.floor)) at ∙ ap Some (sym c.max.ensures) in
    (found_near s.counts.row s.counts.emitted s.floor s.members.last s.members.members c.self.invariant c.args.number c.max.result found).1

pub leave-requires-clause-some : goal.leave-requires-clause-some
leave-requires-clause-some g c =
    let s = c.self.inside in
    let at : row_of c.args.number s.members.members ≡ Some c.in-Some.row = sym c.in-Some.ensures.value in
    let found : position_of c.args.number (subscribers_read s.floor s.members.members) ≡ Some c.max.result =
    position_of-row s.floor c.args.number s.members.members ∙ ap (option_map (λ (r : Row _ _). max r.position s.floor)) at ∙ ap Some (sym c.max.ensures) in
    leave_some s.counts.row s.counts.emitted s.floor s.members.last s.members.members c.self.invariant c.args.number c.max.result found

pub invariant_of-self : goal.invariant_of-self
invariant_of-self g c =
    let s = c.self.inside in
    let at : row_of c.args.number s.members.members ≡ Some c.in-Some.row = sym c.in-Some.ensures.value in
    let found : position_of c.args.number (subscribers_read s.floor s.members.members) ≡ Some c.max.result =
    position_of-row s.floor c.args.number s.members.members ∙ ap (option_map (λ (r : Row _ _). max r.position s.floor)) at ∙ ap Some (sym c.max.ensures) in
    rw (c.leave.ensures.row, c.leave.ensures.emitted, c.remove.ensures.one, c.remove.ensures.last)
    (removed s.counts.row s.counts.emitted s.floor s.members.last s.members.members c.self.invariant c.args.number c.max.result found)

pub invariant_of-self-in-None : goal.invariant_of-self-in-None
invariant_of-self-in-None g c =
    let s = c.self.inside in
    let none : row_of c.args.number s.members.members ≡ None = sym c.in-None.ensures.value in
    rw (c.remove.ensures.members ∙ without_number_absent c.args.number s.members.members none, c.remove.ensures.last) c.self.invariant

pub returns-in-Some-clause-there : goal.returns-in-Some-clause-there
returns-in-Some-clause-there g c =
    let s = c.self.inside in
    let at : row_of c.args.number s.members.members ≡ Some c.in-Some.row = sym c.in-Some.ensures.value in
    let found : position_of c.args.number (subscribers_read s.floor s.members.members) ≡ Some c.max.result =
    position_of-row s.floor c.args.number s.members.members ∙ ap (option_map (λ (r : Row _ _). max r.position s.floor)) at ∙ ap Some (sym c.max.ensures) in
    sym (ap is_some (ap (λ (v : Standing _). position_of c.args.number v.list) (sym c.self.view_is) ∙ found))

pub returns-in-Some-clause-removed : goal.returns-in-Some-clause-removed
returns-in-Some-clause-removed g c =
    let s = c.self.inside in
    let list = ap (subscribers_read s.floor) c.remove.ensures.members ∙ without-row s.floor c.args.number s.members.members in
    let window : length c.leave.new.self.row - 1 ≡ length s.counts.row - 1 = ap (λ r. length r - 1) c.leave.ensures.row ∙ ap (λ k. k - 1) (length-set s.counts.row _ _) in
    standing_same _ _ _ _ _ _ _ _ _ _ _ list c.leave.ensures.emitted window refl c.remove.ensures.last
    ∙ ap (λ (v : Standing _). record v { list = without c.args.number v.list; by_key = c.remove.new.self.by_key }) c.self.view_is

pub returns-in-None-clause-there : goal.returns-in-None-clause-there
returns-in-None-clause-there g c =
    let s = c.self.inside in
    let none : row_of c.args.number s.members.members ≡ None = sym c.in-None.ensures.value in
    sym (ap is_some (ap (λ (v : Standing _). position_of c.args.number v.list) (sym c.self.view_is)
    ∙ position_of-row s.floor c.args.number s.members.members ∙ ap (option_map (λ (r : Row _ _). max r.position s.floor)) none))

pub returns-in-None-clause-removed : goal.returns-in-None-clause-removed
returns-in-None-clause-removed g c =
    let s = c.self.inside in
    let list = ap (subscribers_read s.floor) c.remove.ensures.members ∙ without-row s.floor c.args.number s.members.members in
    standing_same _ _ _ _ _ _ _ _ _ _ _ list refl refl refl c.remove.ensures.last
    ∙ ap (λ (v : Standing _). record v { list = without c.args.number v.list; by_key = c.remove.new.self.by_key }) c.self.view_is
