use Rattle.std.proofs.Common.{refl, sym, ap, subst}
use Rattle.flow_law.specs.history.History.{MayCall}
use Rattle.flow_law.specs.history.Tokens.{subscription_name}
use Rattle.flow_shared.specs.Attended.{AttendedAs}
use Rattle.flow_shared.specs.Calls.{Calls}
use Rattle.flow_shared.proofs.Inside.{found, lent_stands, may_inside, stands_inside, says_inside, calls}
use Rattle.flow_shared.proofs.flow.Flow.call_by.Goals as goal

pub state-state-requires-clause-inside : goal.state-state-requires-clause-inside
state-state-requires-clause-inside g c = let found = c.enter.ensures.found c.if-not-enter.false in (found.state, found.held)

pub call_and_wake-requires-clause-stood : goal.call_and_wake-requires-clause-stood
call_and_wake-requires-clause-stood g c = (
  c.state-state.result.now,
  refl,
  lent_stands g.S.FlowCore.kind (AttendedAs g.S.FlowCore.sleeping g.S.FlowCore.stands_as) c.args.self.now.first c.enter.new.seat c.state-state.result.now
      (found g.S.FlowCore.kind (λ w. g.S.FlowCore.first w.core) (AttendedAs g.S.FlowCore.sleeping g.S.FlowCore.stands_as) g.S.FlowCore.lawful c.args.self.now c.self.inside.gate c.seat.inside.seat.token c.enter.new.seat c.self.view_is (c.enter.ensures.found c.if-not-enter.false)) c.state-state.ensures.value,
)

pub call_and_wake-requires-clause-may : goal.call_and_wake-requires-clause-may
call_and_wake-requires-clause-may g c =
    may_inside g.S.FlowCore.kind (λ w. g.S.FlowCore.first w.core) (AttendedAs g.S.FlowCore.sleeping g.S.FlowCore.stands_as) g.S.FlowCore.lawful c.args.self.now c.self.inside.gate c.seat.inside.seat.token c.enter.new.seat c.self.view_is (c.enter.ensures.found c.if-not-enter.false)
    (g.C.CoreCall.call c.args.call) (subst (λ t. MayCall g.S.FlowCore.kind (g.C.CoreCall.call c.args.call (subscription_name t.knows)) t.knows.name t.knows.seen) (sym c.seat.view_is) c.requires.may)

pub leave-requires-clause-stands : goal.leave-requires-clause-stands
leave-requires-clause-stands g c = (
  c.call_alone-answer.new.self,
  refl,
  stands_inside g.S.FlowCore.kind (λ w. g.S.FlowCore.first w.core) (AttendedAs g.S.FlowCore.sleeping g.S.FlowCore.stands_as) g.S.FlowCore.lawful c.args.self.now c.self.inside.gate c.seat.inside.seat.token c.enter.new.seat c.self.view_is (c.enter.ensures.found c.if-not-enter.false)
      (g.C.CoreCall.call c.args.call) c.state-state.result.now c.call_alone-answer.new.self (g.C.CoreCall.reply c.call_alone-answer.result) c.state-state.ensures.value
      (c.call_alone-answer.ensures.documented (subscription_name c.enter.new.seat.token.knows)) (subst (λ t. MayCall g.S.FlowCore.kind (g.C.CoreCall.call c.args.call (subscription_name t.knows)) t.knows.name t.knows.seen) (sym c.seat.view_is) c.requires.may) _ (ap (λ d. g.C.CoreCall.call d (subscription_name c.enter.new.seat.token.knows)) c.of-made.ensures),
)

pub returns-then-not-is_alone-clause-called : goal.returns-then-not-is_alone-clause-called
returns-then-not-is_alone-clause-called g c =
    subst (λ t. Calls g.S.FlowCore.kind c.args.self.now t (g.C.CoreCall.call c.args.call (subscription_name t.knows)) (g.C.CoreCall.reply c.call_and_wake.result) c.call_and_wake.new.seat.token) c.seat.view_is
    (calls g.S.FlowCore.kind (λ w. g.S.FlowCore.first w.core) (AttendedAs g.S.FlowCore.sleeping g.S.FlowCore.stands_as) g.S.FlowCore.lawful c.args.self.now c.self.inside.gate c.seat.inside.seat.token c.enter.new.seat c.self.view_is (c.enter.ensures.found c.if-not-enter.false)
    (g.C.CoreCall.call c.args.call) (g.C.CoreCall.reply c.call_and_wake.result) c.call_and_wake.new.seat c.call_and_wake.ensures.said c.enter.ensures.lost)

pub returns-clause-called : goal.returns-clause-called
returns-clause-called g c =
    let says = says_inside g.S.FlowCore.kind (λ w. g.S.FlowCore.first w.core) (AttendedAs g.S.FlowCore.sleeping g.S.FlowCore.stands_as) g.S.FlowCore.lawful c.args.self.now c.self.inside.gate c.seat.inside.seat.token c.enter.new.seat c.self.view_is (c.enter.ensures.found c.if-not-enter.false)
    (g.C.CoreCall.call c.args.call) c.state-state.result.now c.call_alone-answer.new.self (g.C.CoreCall.reply c.call_alone-answer.result) c.state-state.ensures.value
    (c.call_alone-answer.ensures.documented (subscription_name c.enter.new.seat.token.knows)) (subst (λ t. MayCall g.S.FlowCore.kind (g.C.CoreCall.call c.args.call (subscription_name t.knows)) t.knows.name t.knows.seen) (sym c.seat.view_is) c.requires.may) _ (ap (λ d. g.C.CoreCall.call d (subscription_name c.enter.new.seat.token.knows)) c.of-made.ensures) c.leave.new.seat c.leave.ensures in
    subst (λ t. Calls g.S.FlowCore.kind c.args.self.now t (g.C.CoreCall.call c.args.call (subscription_name t.knows)) (g.C.CoreCall.reply c.call_alone-answer.result) c.leave.new.seat.token) c.seat.view_is
    (calls g.S.FlowCore.kind (λ w. g.S.FlowCore.first w.core) (AttendedAs g.S.FlowCore.sleeping g.S.FlowCore.stands_as) g.S.FlowCore.lawful c.args.self.now c.self.inside.gate c.seat.inside.seat.token c.enter.new.seat c.self.view_is (c.enter.ensures.found c.if-not-enter.false)
    (g.C.CoreCall.call c.args.call) (g.C.CoreCall.reply c.call_alone-answer.result) c.leave.new.seat says c.enter.ensures.lost)
