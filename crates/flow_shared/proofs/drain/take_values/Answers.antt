use Rattle.std.proofs.Common.{◌≡◌, ◌+◌, ◌∙◌, refl, sym, ap, subst, arith}
use Rattle.std.specs.Prelude.{[], Ok, Err}
use Rattle.std.proofs.lemmas.Result.{err_from_is_err_and}
use Rattle.flow_core.specs.SubId.{number_of}
use Rattle.flow_law.specs.declared.outcome.Drained.TheVariants as drained
use Rattle.flow_law.proofs.DrainingLemmas.{HasTaken, taken_none, taken_more, takes_most, takes_before}
use Rattle.flow_law.specs.flow.Draining.{TakesBy, EndsByCall}
use Rattle.flow_shared.specs.Attended.{AttendedAs}
use Rattle.flow_shared.specs.Drains.{CoreNexts}
use Rattle.flow_shared.proofs.Drains.{taken_room}
use Rattle.flow_shared.proofs.drain.take_values.Goals as goal

pub loop-init : goal.loop-init
loop-init g c =
    let held = c.take_held-taken in
    let from_here : 0 + held.result ≡ held.result = omega arith in
    let R = CoreNexts g.S.FlowCore.kind (number_of c.args.id) (AttendedAs g.S.FlowCore.sleeping g.S.FlowCore.stands_as) in
    record {
      taken = subst (λ n. HasTaken R n c.args.state.now c.args.values.now.items held.new.values.items held.new.self) from_here
          (taken_room R 0 held.result c.args.state.now c.args.state.now held.new.self c.args.values.now.items c.args.values.now.items held.new.values.items (taken_none R c.args.state.now c.args.values.now.items) held.ensures.taken);
      room = omega (arith, c.requires, held.ensures.room.0, held.ensures.room.1);
    }

pub push_reserved-requires : goal.push_reserved-requires
push_reserved-requires g c = omega (arith, c.loop.invariant.room, c.loop-test.true)

pub loop-preserved : goal.loop-preserved
loop-preserved g c =
    let R = CoreNexts g.S.FlowCore.kind (number_of c.args.id) (AttendedAs g.S.FlowCore.sleeping g.S.FlowCore.stands_as) in
    let given = subst (λ r. R c.loop.state r c.call.new.self) (c.in_ok-value.was ∙ ap Ok c.in-Value.is) (c.call.ensures.documented []) in
    record {
      taken = taken_more R c.loop.counter c.args.state.now c.loop.state c.call.new.self c.args.values.now.items c.loop.values.items
          c.push_reserved.new.self.items c.in-Value.value c.loop.invariant.taken given c.push_reserved.ensures.items;
      room = omega (arith, c.loop.invariant.room, c.push_reserved.ensures.len, c.push_reserved.ensures.capacity);
    }

pub returns-clause-takes : goal.returns-clause-takes
returns-clause-takes g c =
    let all : c.loop.counter ≡ c.args.most = omega (arith, c.loop-test.false, c.loop.auto.counter-end, c.take_held-taken.ensures.most) in
    let R = CoreNexts g.S.FlowCore.kind (number_of c.args.id) (AttendedAs g.S.FlowCore.sleeping g.S.FlowCore.stands_as) in
    takes_most R (EndsByCall R) c.args.most c.args.state.now c.loop.state c.args.values.now.items c.loop.values.items
    (subst (λ n. HasTaken R n c.args.state.now c.args.values.now.items c.loop.values.items c.loop.state) all c.loop.invariant.taken) refl

pub returns-in-Empty-clause-takes : goal.returns-in-Empty-clause-takes
returns-in-Empty-clause-takes g c =
    let R = CoreNexts g.S.FlowCore.kind (number_of c.args.id) (AttendedAs g.S.FlowCore.sleeping g.S.FlowCore.stands_as) in
    takes_before R (EndsByCall R) c.loop.counter c.args.most c.args.state.now c.loop.state c.call.new.self c.args.values.now.items c.loop.values.items (Ok drained.Empty) c.loop.invariant.taken c.loop-test.true
    (subst (λ r. R c.loop.state r c.call.new.self) (c.in_ok-value.was ∙ ap Ok c.in-Empty.is) (c.call.ensures.documented [])) (λ e. cc)

pub returns-in-Gone-clause-takes : goal.returns-in-Gone-clause-takes
returns-in-Gone-clause-takes g c =
    let R = CoreNexts g.S.FlowCore.kind (number_of c.args.id) (AttendedAs g.S.FlowCore.sleeping g.S.FlowCore.stands_as) in
    takes_before R (EndsByCall R) c.loop.counter c.args.most c.args.state.now c.loop.state c.call.new.self c.args.values.now.items c.loop.values.items (Ok drained.Gone) c.loop.invariant.taken c.loop-test.true
    (subst (λ r. R c.loop.state r c.call.new.self) (c.in_ok-value.was ∙ ap Ok c.in-Gone.is) (c.call.ensures.documented [])) (λ e. cc)

pub returns-in_err-value-clause-takes : goal.returns-in_err-value-clause-takes
returns-in_err-value-clause-takes g c =
    let R = CoreNexts g.S.FlowCore.kind (number_of c.args.id) (AttendedAs g.S.FlowCore.sleeping g.S.FlowCore.stands_as) in
    let given = err_from_is_err_and c.from_residual.result c.from_residual.ensures.1 in
    subst (λ r. TakesBy R c.args.most c.args.state.now c.args.values.now.items r c.loop.values.items c.call.new.self) (sym given.1)
    (takes_before R (EndsByCall R) c.loop.counter c.args.most c.args.state.now c.loop.state c.call.new.self c.args.values.now.items c.loop.values.items (Err given.0) c.loop.invariant.taken c.loop-test.true
    (subst (λ r. R c.loop.state r c.call.new.self) (c.in_err-value.was ∙ ap Err (sym given.2)) (c.call.ensures.documented [])) (λ e. cc))
