use Rattle.std.proofs.Common.{refl, subst}
use Rattle.std.proofs.Math.Facts.{to_z-of_z}
use Rattle.flow_law.specs.declared.call.SharedCall.TheVariants.{Emit}
use Rattle.flow_law.specs.declared.call.SharedReply.TheVariants.{Refused}
use Rattle.flow_law.specs.flow.SharedHistory.{shared_flow}
use Rattle.flow_law.specs.flow.Standing.{Conforms, StandsFor}
use Rattle.script_format.specs.declared.script.FlowStep.TheVariants as step
use Rattle.flow_script.specs.Answers.{as_answer}
use Rattle.flow_script.specs.SharedMeaning.{plays_shared}
use Rattle.flow_script.specs.Shown.{kept_numbers}
use Rattle.flow_script.proofs.CallLemmas.{tells, refuses}
use Rattle.flow_script.proofs.AnswerLemmas.{shared-answers}
use Rattle.flow_script.proofs.PlayLemmas.{if-ok}
use Rattle.flow_script.proofs.shared_calls.emit.Goals as goal

pub returns-in_ok-add_emission-in-Err-clause-plays : goal.returns-in_ok-add_emission-in-Err-clause-plays
returns-in_ok-add_emission-in-Err-clause-plays c =
    let old = c.args.core.now in
    let new = c.emit.new.self in
    let fault = c.in-Err.refused.fault in
    let conforms = subst (λ v. Conforms old (Emit v) (Refused fault) new) (to_z-of_z c.ranges.value) c.in-Err.ensures.documented in
    if-ok c.call_refusal.result (λ a is. tells shared_flow plays_shared StandsFor shared-answers (step.Emit c.args.value) _ (Emit c.args.value) (Refused fault)
    old new (kept_numbers c.args.numbers.now) _ (as_answer a) refl conforms.0
    (refuses shared_flow plays_shared StandsFor shared-answers (Emit c.args.value) fault a is) c.in_ok-add_emission-in-Err.ensures.added) c.call_refusal.ensures.answer
