use Rattle.std.proofs.Common.{◌≡◌, sym, ap, ◌∙◌, subst}
use Rattle.flow_law.specs.declared.call.SharedCall.TheVariants as call
use Rattle.flow_law.specs.flow.SharedHistory.{after}
use Rattle.flow_law.proofs.SharedSleeping.{shared_sleeping}
use Rattle.flow_core.specs.SharedCore.{emit_reply}
use Rattle.flow_shared.specs.CoreCalls.{MaySleep, after_emit}
use Rattle.flow_shared.proofs.Sleeping.{emit_sleeps}
use Rattle.flow_shared.proofs.shared.shared_calls.EmitCoreCallSharedCore.run.Goals as goal

pub returns-clause-waits : goal.returns-clause-waits
returns-clause-waits g c = λ name s sound told.
    let r = c.before-2.result in
    let made = c.before-2.ensures in
    let sleeps : after_emit r.answer ≡ r.«then» = ap (λ m. after_emit m.answer) made ∙ sym c.after_emit-then.ensures ∙ sym (ap (λ m. m.«then») made) in
    subst (λ d. MaySleep shared_sleeping d (after s (call.Emit c.args.self.value) (emit_reply r.answer))) sleeps (emit_sleeps s c.args.self.value r.answer sound told)
