use Rattle.std.proofs.Common.{refl, subst}
use Rattle.std.proofs.Math.Facts.{to_z-of_z}
use Rattle.flow_law.specs.flow.Standing.{Documents}
use Rattle.script_format.specs.declared.script.FlowStep.TheVariants as step
use Rattle.flow_script.specs.Answers.{as_answer, tested}
use Rattle.flow_script.specs.Shown.{kept_numbers}
use Rattle.flow_script.proofs.CallLemmas.{tells, refuses}
use Rattle.flow_script.proofs.PlayLemmas.{if-ok}
use Rattle.flow_script.proofs.flow_steps.try_emit.Goals as goal

pub returns-in-Ok-clause-plays : goal.returns-in-Ok-clause-plays
returns-in-Ok-clause-plays g c =
    let n = kept_numbers c.args.numbers.now in
    let k = g.F.FlowCore.kind in
    let told = k.tested c.in-Ok.accepted in
    let conforms = subst (λ v. Documents k g.F.FlowCore.stands_as c.args.core.now (g.F.ScriptCore.played.try_emit v) told c.try_emit_value.new.self) (to_z-of_z c.ranges.value) c.in-Ok.ensures in
    tells k g.F.ScriptCore.played g.F.FlowCore.stands_as c.law_answers.ensures (step.TryEmit c.args.value) _ _ told
    c.args.core.now c.try_emit_value.new.self n n (tested c.in-Ok.accepted) refl conforms (c.law_answers.ensures.tried c.args.value c.in-Ok.accepted) refl

pub returns-in-Err-clause-plays : goal.returns-in-Err-clause-plays
returns-in-Err-clause-plays g c =
    let n = kept_numbers c.args.numbers.now in
    let k = g.F.FlowCore.kind in
    let fault = c.in-Err.fault in
    let conforms = subst (λ v. Documents k g.F.FlowCore.stands_as c.args.core.now (g.F.ScriptCore.played.try_emit v) (k.refused fault) c.try_emit_value.new.self) (to_z-of_z c.ranges.value) c.in-Err.ensures in
    if-ok c.call_refusal.result (λ a is. tells k g.F.ScriptCore.played g.F.FlowCore.stands_as c.law_answers.ensures (step.TryEmit c.args.value) _ _ (k.refused fault)
    c.args.core.now c.try_emit_value.new.self n n (as_answer a) refl conforms
    (refuses g.F.FlowCore.kind g.F.ScriptCore.played g.F.FlowCore.stands_as c.law_answers.ensures _ fault a is) refl) c.call_refusal.ensures.answer
