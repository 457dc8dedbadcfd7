use Rattle.std.proofs.Common.{refl, sym, ap}
use Rattle.std.specs.Prelude.{option_map}
use Rattle.flow_core.specs.SubId.{number_of}
use Rattle.script_format.specs.declared.script.FlowStep.TheVariants as step
use Rattle.flow_script.specs.Answers.{as_answer, received}
use Rattle.flow_script.specs.Numbers.{number_at}
use Rattle.flow_script.specs.Shown.{kept_numbers}
use Rattle.flow_script.proofs.CallLemmas.{tells, refuses}
use Rattle.flow_script.proofs.PlayLemmas.{if-ok}
use Rattle.flow_script.proofs.flow_steps.next.Goals as goal

pub returns-in-Ok-clause-plays : goal.returns-in-Ok-clause-plays
returns-in-Ok-clause-plays g c =
    let n = kept_numbers c.args.numbers.now in
    let u = number_of c.in-Some.id in
    tells g.F.FlowCore.kind g.F.ScriptCore.played g.F.FlowCore.stands_as c.law_answers.ensures (step.Next c.args.place) _ _ (g.F.FlowCore.kind.received c.in-Ok.next)
    c.args.core.now c.next.new.self n n (received c.in-Ok.next) (ap (option_map g.F.FlowCore.kind.take_next) {x = number_at c.args.place n.subscribers} (sym c.in-Some.ensures)) c.in-Ok.ensures.documented
    (c.law_answers.ensures.gets u c.in-Ok.next) refl

pub returns-in-Err-clause-plays : goal.returns-in-Err-clause-plays
returns-in-Err-clause-plays g c =
    let n = kept_numbers c.args.numbers.now in
    let fault = c.in-Err.fault in
    if-ok c.call_refusal.result (λ a is. tells g.F.FlowCore.kind g.F.ScriptCore.played g.F.FlowCore.stands_as c.law_answers.ensures (step.Next c.args.place) _ _ (g.F.FlowCore.kind.refused fault)
    c.args.core.now c.next.new.self n n (as_answer a) (ap (option_map g.F.FlowCore.kind.take_next) {x = number_at c.args.place n.subscribers} (sym c.in-Some.ensures)) c.in-Err.ensures.documented
    (refuses g.F.FlowCore.kind g.F.ScriptCore.played g.F.FlowCore.stands_as c.law_answers.ensures _ fault a is) refl) c.call_refusal.ensures.answer
