use Rattle.std.proofs.Common.{◌++◌, ◌∷◌, [], length, refl, sym, ap, subst}
use Rattle.flow_law.specs.history.Growth.{event}
use Rattle.flow_law.specs.history.Promise.{said}
use Rattle.flow_law.specs.flow.Standing.{StandsForHistory}
use Rattle.flow_law.specs.history.Tokens.{subscription_name}
use Rattle.flow_shared.specs.Attended.{AttendedAs}
use Rattle.flow_shared.proofs.Inside.{lent_stands, may_leave, has_said}
use Rattle.flow_shared.proofs.flow.Flow.call_and_wake.Goals as goal

pub leave-requires-clause-stands : goal.leave-requires-clause-stands
leave-requires-clause-stands g c =
    let t = c.args.seat.now.token in
    let call = g.C.CoreCall.call c.of-made.result.value (subscription_name t.knows) in (
      c.call_among_sleepers-answer.new.self,
      refl,
      subst (λ first. StandsForHistory g.S.FlowCore.kind (AttendedAs g.S.FlowCore.sleeping g.S.FlowCore.stands_as) first c.call_among_sleepers-answer.new.self (t.knows.seen ++ event t.knows.name (length t.knows.seen) (said call (g.C.CoreCall.reply c.call_among_sleepers-answer.result)) ∷ []))
          (sym (ap (λ o. o.first) c.self.view_is))
          (may_leave g.S.FlowCore.kind (AttendedAs g.S.FlowCore.sleeping g.S.FlowCore.stands_as) c.args.self.now.first c.args.seat.now.token c.state-state.result.now c.call_among_sleepers-answer.new.self
          (g.C.CoreCall.call c.args.call (subscription_name c.args.seat.now.token.knows)) _ (g.C.CoreCall.reply c.call_among_sleepers-answer.result)
          (lent_stands g.S.FlowCore.kind (AttendedAs g.S.FlowCore.sleeping g.S.FlowCore.stands_as) c.args.self.now.first c.args.seat.now c.state-state.result.now c.requires.stood c.state-state.ensures.value)
          (ap (λ d. g.C.CoreCall.call d (subscription_name c.args.seat.now.token.knows)) c.of-made.ensures) (c.call_among_sleepers-answer.ensures.documented (subscription_name c.args.seat.now.token.knows)) c.requires.may),
    )

pub returns-clause-said : goal.returns-clause-said
returns-clause-said g c = has_said g.S.FlowCore.kind (AttendedAs g.S.FlowCore.sleeping g.S.FlowCore.stands_as) c.args.self.now.first c.args.seat.now.token c.state-state.result.now c.call_among_sleepers-answer.new.self
    (g.C.CoreCall.call c.args.call (subscription_name c.args.seat.now.token.knows)) _ (g.C.CoreCall.reply c.call_among_sleepers-answer.result)
    (lent_stands g.S.FlowCore.kind (AttendedAs g.S.FlowCore.sleeping g.S.FlowCore.stands_as) c.args.self.now.first c.args.seat.now c.state-state.result.now c.requires.stood c.state-state.ensures.value)
    (ap (λ d. g.C.CoreCall.call d (subscription_name c.args.seat.now.token.knows)) c.of-made.ensures) (c.call_among_sleepers-answer.ensures.documented (subscription_name c.args.seat.now.token.knows)) c.requires.may c.leave.new.seat c.leave.ensures
