use Rattle.std.proofs.Common.{◌≡◌, ◌-◌, max, Some, None, sym, ap, ◌∙◌, arith}
use Rattle.std.specs.Option.{option_map}
use Rattle.flow_law.specs.flow.SharedFlow.{position_of}
use Rattle.flow_containers.specs.declared.members.enroll.Row.{Row}
use Rattle.flow_containers.specs.Members.{row_of}
use Rattle.flow_containers.specs.Subscribers.{Standing, subscribers_read}
use Rattle.flow_containers.proofs.RaisedLemmas.{position_of-row}
use Rattle.flow_containers.proofs.SubscribersLemmas.{found_near}
use Rattle.flow_containers.proofs.subscribers.Subscribers.lag.Goals as goal

pub overflow_sub-result : goal.overflow_sub-result
overflow_sub-result g c =
    let s = c.self.inside in
    let at : row_of c.args.number s.members.members ≡ Some c.in-Some.row.now = sym c.in-Some.ensures in
    let found : position_of c.args.number (subscribers_read s.floor s.members.members) ≡ Some c.max.result =
    position_of-row s.floor c.args.number s.members.members ∙ ap (option_map (λ (r : Row _ _). max r.position s.floor)) at ∙ ap Some (sym c.max.ensures) in
    let near = found_near s.counts.row s.counts.emitted s.floor s.members.last s.members.members c.self.invariant c.args.number c.max.result found in
    omega (arith, near.0, c.emitted.ensures)

pub returns-in-Some : goal.returns-in-Some
returns-in-Some g c =
    let s = c.self.inside in
    let at : row_of c.args.number s.members.members ≡ Some c.in-Some.row.now = sym c.in-Some.ensures in
    let found : position_of c.args.number (subscribers_read s.floor s.members.members) ≡ Some c.max.result =
    position_of-row s.floor c.args.number s.members.members ∙ ap (option_map (λ (r : Row _ _). max r.position s.floor)) at ∙ ap Some (sym c.max.ensures) in
    ap (λ e. Some (e - c.max.result)) c.emitted.ensures
    ∙ sym (ap (option_map (λ position. s.counts.emitted - position)) found)
    ∙ ap (λ (v : Standing _). option_map (λ position. v.emitted - position) (position_of c.args.number v.list)) c.self.view_is

pub returns-in-None : goal.returns-in-None
returns-in-None g c =
    let s = c.self.inside in
    let none : row_of c.args.number s.members.members ≡ None = sym c.in-None.ensures in
    let gone : position_of c.args.number (subscribers_read s.floor s.members.members) ≡ None =
    position_of-row s.floor c.args.number s.members.members ∙ ap (option_map (λ (r : Row _ _). max r.position s.floor)) none in
    sym (ap (option_map (λ position. s.counts.emitted - position)) gone)
    ∙ ap (λ (v : Standing _). option_map (λ position. v.emitted - position) (position_of c.args.number v.list)) c.self.view_is
