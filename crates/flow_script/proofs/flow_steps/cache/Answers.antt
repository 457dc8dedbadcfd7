use Rattle.std.proofs.Common.{refl}
use Rattle.script_format.specs.declared.script.FlowStep.TheVariants as step
use Rattle.flow_script.specs.Answers.{as_answer, cached}
use Rattle.flow_script.specs.Shown.{kept_numbers}
use Rattle.flow_script.proofs.CallLemmas.{tells, refuses}
use Rattle.flow_script.proofs.PlayLemmas.{if-ok}
use Rattle.flow_script.proofs.flow_steps.cache.Goals as goal

pub returns-in-Ok-clause-plays : goal.returns-in-Ok-clause-plays
returns-in-Ok-clause-plays g c =
    let n = kept_numbers c.args.numbers.now in
    let values = c.in-Ok.values.items in
    tells g.F.FlowCore.kind g.F.ScriptCore.played g.F.FlowCore.stands_as c.law_answers.ensures step.Cache _ _ (g.F.FlowCore.kind.cached values)
    c.args.core.now c.args.core.now n n (cached values) refl c.in-Ok.ensures (c.law_answers.ensures.cached values) refl

pub returns-in-Err-clause-plays : goal.returns-in-Err-clause-plays
returns-in-Err-clause-plays g c =
    let n = kept_numbers c.args.numbers.now in
    let fault = c.in-Err.fault in
    if-ok c.call_refusal.result (λ a is. tells g.F.FlowCore.kind g.F.ScriptCore.played g.F.FlowCore.stands_as c.law_answers.ensures step.Cache _ _ (g.F.FlowCore.kind.refused fault)
    c.args.core.now c.args.core.now n n (as_answer a) refl c.in-Err.ensures
    (refuses g.F.FlowCore.kind g.F.ScriptCore.played g.F.FlowCore.stands_as c.law_answers.ensures _ fault a is) refl) c.call_refusal.ensures.answer
