use Rattle.std.proofs.Common.{[], refl, sym, ap, ◌∙◌}
use Rattle.flow_core.specs.SubId.{number_of}
use Rattle.script_format.specs.declared.script.FlowStep.TheVariants as step
use Rattle.flow_script.specs.Answers.{as_answer, subscribed}
use Rattle.flow_script.specs.Numbers.{with_subscriber}
use Rattle.flow_script.specs.Shown.{kept_numbers}
use Rattle.flow_script.proofs.CallLemmas.{tells, refuses}
use Rattle.flow_script.proofs.PlayLemmas.{if-ok}
use Rattle.flow_script.proofs.flow_steps.subscribe.Goals as goal

pub returns-in_ok-add_subscriber-in-Ok-clause-plays : goal.returns-in_ok-add_subscriber-in-Ok-clause-plays
returns-in_ok-add_subscriber-in-Ok-clause-plays g c =
    let n = kept_numbers c.args.numbers.now in
    let u = number_of c.in-Ok.id in
    tells g.F.FlowCore.kind g.F.ScriptCore.played g.F.FlowCore.stands_as c.law_answers.ensures step.Subscribe _ _ (g.F.FlowCore.kind.subscribed u)
    c.args.core.now c.subscribe.new.self n _ subscribed refl (c.in-Ok.ensures [])
    (c.law_answers.ensures.welcomed u) (c.in_ok-add_subscriber-in-Ok.ensures.added ∙ ap (λ k. with_subscriber k n) (sym (c.law_answers.ensures.gives u)))

pub returns-in_ok-add_subscriber-in-Err-clause-plays : goal.returns-in_ok-add_subscriber-in-Err-clause-plays
returns-in_ok-add_subscriber-in-Err-clause-plays g c =
    let n = kept_numbers c.args.numbers.now in
    let fault = c.in-Err.fault in
    if-ok c.call_refusal.result (λ a is. tells g.F.FlowCore.kind g.F.ScriptCore.played g.F.FlowCore.stands_as c.law_answers.ensures step.Subscribe _ _ (g.F.FlowCore.kind.refused fault)
    c.args.core.now c.subscribe.new.self n _ (as_answer a) refl (c.in-Err.ensures [])
    (refuses g.F.FlowCore.kind g.F.ScriptCore.played g.F.FlowCore.stands_as c.law_answers.ensures _ fault a is)
    (c.in_ok-add_subscriber-in-Err.ensures.added ∙ ap (λ k. with_subscriber k n) (sym (c.law_answers.ensures.refused_gives _ fault)))) c.call_refusal.ensures.answer
