use Rattle.std.proofs.Common.{refl, sym, ap, subst, arith}
use Rattle.flow_core.specs.SubId.{number_of}
use Rattle.flow_law.specs.flow.Draining.{DrainsBy}
use Rattle.flow_law.specs.history.Growth.{after_events}
use Rattle.flow_law.specs.history.History.{IsSubscription}
use Rattle.flow_law.specs.flow.Standing.{StandsForHistory}
use Rattle.flow_law.specs.history.Tokens.{numbered_token}
use Rattle.flow_shared.specs.Attended.{AttendedAs}
use Rattle.flow_shared.specs.Calls.{NextsOf}
use Rattle.flow_shared.specs.Drains.{said_since}
use Rattle.flow_shared.proofs.Inside.{found}
use Rattle.flow_shared.proofs.Drains.{names_inside, timed_inside, subscribed_inside, subscribed_after, drains_by, may_leave, has_taken}
use Rattle.flow_shared.proofs.flow.Flow.take.Goals as goal

pub leave-requires-clause-stands : goal.leave-requires-clause-stands
leave-requires-clause-stands g c =
    let t = c.enter.new.seat.token in
    let said = said_since g.S.FlowCore.kind (number_of c.args.id) c.of-before.result.value.items c.take_values-ended.new.values.items c.take_values-ended.result in
    let subscribed = (subst (λ t. IsSubscription g.S.FlowCore.kind t.knows (number_of c.args.id)) (sym c.seat.view_is) c.requires.subscribed) in (
      c.take_values-ended.new.state,
      refl,
      subst (λ first. StandsForHistory g.S.FlowCore.kind (AttendedAs g.S.FlowCore.sleeping g.S.FlowCore.stands_as) first c.take_values-ended.new.state (after_events t.knows.name said t.knows.seen)) (sym (ap (λ o. o.first) c.self.view_is))
          (may_leave g.S.FlowCore.kind (AttendedAs g.S.FlowCore.sleeping g.S.FlowCore.stands_as) g.S.FlowCore.lawful (number_of c.args.id) c.args.self.now.first c.enter.new.seat c.state-state.result.now c.take_values-ended.new.state
          (found g.S.FlowCore.kind (λ w. g.S.FlowCore.first w.core) (AttendedAs g.S.FlowCore.sleeping g.S.FlowCore.stands_as) g.S.FlowCore.lawful c.args.self.now c.self.inside.gate c.seat.inside.seat.token c.enter.new.seat c.self.view_is c.enter.ensures.found) c.state-state.ensures.value
          (subscribed_inside g.S.FlowCore.kind (AttendedAs g.S.FlowCore.sleeping g.S.FlowCore.stands_as) g.S.FlowCore.lawful (number_of c.args.id) (λ w. g.S.FlowCore.first w.core) c.args.self.now c.self.inside.gate c.seat.inside.seat.token c.enter.new.seat c.self.view_is c.enter.ensures.found subscribed) (names_inside g.S.FlowCore.kind (AttendedAs g.S.FlowCore.sleeping g.S.FlowCore.stands_as) g.S.FlowCore.lawful (number_of c.args.id) (λ w. g.S.FlowCore.first w.core) c.args.self.now c.self.inside.gate c.seat.inside.seat.token c.enter.new.seat c.self.view_is c.enter.ensures.found subscribed) (timed_inside g.S.FlowCore.kind (AttendedAs g.S.FlowCore.sleeping g.S.FlowCore.stands_as) (λ w. g.S.FlowCore.first w.core) c.self.inside.gate c.seat.inside.seat.token c.enter.new.seat c.enter.ensures.found) c.args.most (omega (arith, c.requires.some))
          c.args.values.now.items c.of-before.result.value.items c.take_values-ended.new.values.items (ap (λ v. v.items) c.of-before.ensures) c.take_values-ended.result c.take_values-ended.ensures.takes),
    )

pub returns-clause-drained : goal.returns-clause-drained
returns-clause-drained g c =
    let n = number_of c.args.id in
    let subscribed = (subst (λ t. IsSubscription g.S.FlowCore.kind t.knows (number_of c.args.id)) (sym c.seat.view_is) c.requires.subscribed) in
    let takes = has_taken g.S.FlowCore.kind (AttendedAs g.S.FlowCore.sleeping g.S.FlowCore.stands_as) g.S.FlowCore.lawful (number_of c.args.id) c.args.self.now.first c.enter.new.seat c.state-state.result.now c.take_values-ended.new.state
    (found g.S.FlowCore.kind (λ w. g.S.FlowCore.first w.core) (AttendedAs g.S.FlowCore.sleeping g.S.FlowCore.stands_as) g.S.FlowCore.lawful c.args.self.now c.self.inside.gate c.seat.inside.seat.token c.enter.new.seat c.self.view_is c.enter.ensures.found) c.state-state.ensures.value
    (subscribed_inside g.S.FlowCore.kind (AttendedAs g.S.FlowCore.sleeping g.S.FlowCore.stands_as) g.S.FlowCore.lawful (number_of c.args.id) (λ w. g.S.FlowCore.first w.core) c.args.self.now c.self.inside.gate c.seat.inside.seat.token c.enter.new.seat c.self.view_is c.enter.ensures.found subscribed) (names_inside g.S.FlowCore.kind (AttendedAs g.S.FlowCore.sleeping g.S.FlowCore.stands_as) g.S.FlowCore.lawful (number_of c.args.id) (λ w. g.S.FlowCore.first w.core) c.args.self.now c.self.inside.gate c.seat.inside.seat.token c.enter.new.seat c.self.view_is c.enter.ensures.found subscribed) (timed_inside g.S.FlowCore.kind (AttendedAs g.S.FlowCore.sleeping g.S.FlowCore.stands_as) (λ w. g.S.FlowCore.first w.core) c.self.inside.gate c.seat.inside.seat.token c.enter.new.seat c.enter.ensures.found) c.args.most (omega (arith, c.requires.some))
    c.args.values.now.items c.of-before.result.value.items c.take_values-ended.new.values.items (ap (λ v. v.items) c.of-before.ensures) c.take_values-ended.result c.take_values-ended.ensures.takes
    c.leave.new.seat c.leave.ensures in
    subst (λ t. DrainsBy (NextsOf g.S.FlowCore.kind c.args.self.now) c.args.most (numbered_token t n) c.args.values.now.items c.take_values-ended.result c.take_values-ended.new.values.items (numbered_token c.leave.new.seat.token n)) c.seat.view_is
    (drains_by g.S.FlowCore.kind (AttendedAs g.S.FlowCore.sleeping g.S.FlowCore.stands_as) g.S.FlowCore.lawful (number_of c.args.id) (λ w. g.S.FlowCore.first w.core) c.args.self.now c.self.inside.gate c.seat.inside.seat.token c.enter.new.seat c.self.view_is c.enter.ensures.found subscribed c.enter.ensures.lost c.args.most (omega (arith, c.requires.some))
    c.args.values.now.items c.take_values-ended.new.values.items c.take_values-ended.result c.leave.new.seat takes)

pub returns-clause-subscribed : goal.returns-clause-subscribed
returns-clause-subscribed g c =
    let subscribed = (subst (λ t. IsSubscription g.S.FlowCore.kind t.knows (number_of c.args.id)) (sym c.seat.view_is) c.requires.subscribed) in
    let takes = has_taken g.S.FlowCore.kind (AttendedAs g.S.FlowCore.sleeping g.S.FlowCore.stands_as) g.S.FlowCore.lawful (number_of c.args.id) c.args.self.now.first c.enter.new.seat c.state-state.result.now c.take_values-ended.new.state
    (found g.S.FlowCore.kind (λ w. g.S.FlowCore.first w.core) (AttendedAs g.S.FlowCore.sleeping g.S.FlowCore.stands_as) g.S.FlowCore.lawful c.args.self.now c.self.inside.gate c.seat.inside.seat.token c.enter.new.seat c.self.view_is c.enter.ensures.found) c.state-state.ensures.value
    (subscribed_inside g.S.FlowCore.kind (AttendedAs g.S.FlowCore.sleeping g.S.FlowCore.stands_as) g.S.FlowCore.lawful (number_of c.args.id) (λ w. g.S.FlowCore.first w.core) c.args.self.now c.self.inside.gate c.seat.inside.seat.token c.enter.new.seat c.self.view_is c.enter.ensures.found subscribed) (names_inside g.S.FlowCore.kind (AttendedAs g.S.FlowCore.sleeping g.S.FlowCore.stands_as) g.S.FlowCore.lawful (number_of c.args.id) (λ w. g.S.FlowCore.first w.core) c.args.self.now c.self.inside.gate c.seat.inside.seat.token c.enter.new.seat c.self.view_is c.enter.ensures.found subscribed) (timed_inside g.S.FlowCore.kind (AttendedAs g.S.FlowCore.sleeping g.S.FlowCore.stands_as) (λ w. g.S.FlowCore.first w.core) c.self.inside.gate c.seat.inside.seat.token c.enter.new.seat c.enter.ensures.found) c.args.most (omega (arith, c.requires.some))
    c.args.values.now.items c.of-before.result.value.items c.take_values-ended.new.values.items (ap (λ v. v.items) c.of-before.ensures) c.take_values-ended.result c.take_values-ended.ensures.takes
    c.leave.new.seat c.leave.ensures in
    subscribed_after g.S.FlowCore.kind (AttendedAs g.S.FlowCore.sleeping g.S.FlowCore.stands_as) g.S.FlowCore.lawful (number_of c.args.id) (λ w. g.S.FlowCore.first w.core) c.args.self.now c.self.inside.gate c.seat.inside.seat.token c.enter.new.seat c.self.view_is c.enter.ensures.found subscribed c.enter.ensures.lost c.args.most (omega (arith, c.requires.some))
    c.args.values.now.items c.take_values-ended.new.values.items c.take_values-ended.result c.leave.new.seat takes
