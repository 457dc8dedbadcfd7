use Rattle.std.proofs.Common.{◌≡◌, Result, Ok, Err, IfErr, sym, ap, ◌∙◌, subst}
use Rattle.std.proofs.lemmas.Result.{err_from_is_err_and}
use Rattle.flow_law.specs.declared.fault.Refused.{Refused}
use Rattle.flow_law.specs.declared.outcome.Emit.{Emit}
use Rattle.flow_law.specs.declared.outcome.Emit.TheVariants.{Queued}
use Rattle.flow_law.specs.declared.call.SharedCall.TheVariants as call
use Rattle.flow_core.specs.SharedCore.{emit_reply}
use Rattle.flow_shared.specs.SharedReplies.{SharedCalls, IsEmitFault}
use Rattle.flow_shared.proofs.Emissions.{queued_given}
use Rattle.flow_shared.proofs.Refusals.{emit_fault}
use Rattle.flow_shared.proofs.shared.sending.Flow+SharedCore+T+A+A.send_within.Goals as goal

pub returns-in_err-call-clause-refused : goal.returns-in_err-call-clause-refused
returns-in_err-call-clause-refused g c =
    let given = err_from_is_err_and c.from_residual.result c.from_residual.ensures.1 in
    let called = subst (λ (r : Result Emit (Refused g.row.T.Denot)). SharedCalls c.args.self.now c.args.seat.now (call.Emit c.args.value) (emit_reply r) c.call.new.seat) (c.in_err-call.was ∙ ap Err (sym given.2)) c.call.ensures.called in
    subst (λ r. IfErr r (λ refused. IsEmitFault refused.fault)) (sym given.1) (emit_fault c.args.self.now c.args.seat.now c.call.new.seat c.args.value given.0.fault called)

pub await_end_within-requires-clause-emission : goal.await_end_within-requires-clause-emission
await_end_within-requires-clause-emission g c =
    let called = subst (λ (r : Result Emit (Refused g.row.T.Denot)). SharedCalls c.args.self.now c.args.seat.now (call.Emit c.args.value) (emit_reply r) c.call.new.seat) (c.in_ok-call.was ∙ ap Ok c.in-Queued.is) c.call.ensures.called in
    queued_given c.args.self.now c.args.seat.now c.call.new.seat c.args.value (Ok (Queued c.in-Queued.number)) called
