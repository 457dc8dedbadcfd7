use Rattle.std.proofs.Common.{◌≡◌, Result, Ok, Err, ap, ◌∙◌, subst}
use Rattle.std.specs.Prelude.{IfErr}
use Rattle.flow_law.specs.declared.fault.Refused.{Refused}
use Rattle.flow_law.specs.declared.outcome.Emit.{Emit}
use Rattle.flow_law.specs.declared.outcome.Emit.TheVariants.{Queued}
use Rattle.flow_law.specs.declared.call.SharedCall.TheVariants as call
use Rattle.flow_core.specs.SharedCore.{emit_reply}
use Rattle.flow_shared.specs.SharedReplies.{SharedCalls}
use Rattle.flow_shared.proofs.Emissions.{queued_given, refused_by, refused_at_once}
use Rattle.flow_shared.proofs.shared.emitting.Flow+SharedCore+T+A+A.emit_by.Goals as goal

pub invariant_of-result : goal.invariant_of-result
invariant_of-result g c =
    let it = c.in-Ok-Ok-Queued in
    let is = it.field-0-is ∙ ap Ok it.field-0-0-is in
    let called = subst (λ (a : Result Emit (Refused g.row.T.Denot)). SharedCalls c.args.self.now c.args.seat (call.Emit c.args.value) (emit_reply a) c.call_by.new.seat) is it.ensures.called in
    queued_given c.args.self.now c.args.seat c.call_by.new.seat c.args.value (Ok (Queued it.number)) called

pub returns-in-Ok-Err-clause-emits : goal.returns-in-Ok-Err-clause-emits
returns-in-Ok-Err-clause-emits g c =
    let it = c.in-Ok-Err in
    let called = subst (λ (a : Result Emit (Refused g.row.T.Denot)). SharedCalls c.args.self.now c.args.seat (call.Emit c.args.value) (emit_reply a) c.call_by.new.seat) it.field-0-is it.ensures.called in
    let also = subst (λ (a : Result Emit (Refused g.row.T.Denot)). IfErr a (λ refused. refused.value ≡ c.args.value)) it.field-0-is it.ensures.also in
    refused_by g.row.A.Denot c.args.self.now c.args.seat c.call_by.new.seat c.args.value g.E.Entry.is_at_once it.field-0-0.value it.field-0-0.fault (called, it.ensures.at_once) also

pub returns-in-Ok-Err-clause-armed : goal.returns-in-Ok-Err-clause-armed
returns-in-Ok-Err-clause-armed g c =
    let it = c.in-Ok-Err in
    let called = subst (λ (a : Result Emit (Refused g.row.T.Denot)). SharedCalls c.args.self.now c.args.seat (call.Emit c.args.value) (emit_reply a) c.call_by.new.seat) it.field-0-is it.ensures.called in
    refused_at_once g.row.A.Denot c.args.self.now c.args.seat c.call_by.new.seat c.args.value it.field-0-0.value it.field-0-0.fault called
