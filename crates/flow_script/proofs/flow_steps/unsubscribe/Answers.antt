use Rattle.std.proofs.Common.{refl, sym, ap}
use Rattle.std.specs.Prelude.{option_map}
use Rattle.flow_core.specs.SubId.{number_of}
use Rattle.script_format.specs.declared.script.FlowStep.TheVariants as step
use Rattle.flow_script.specs.Answers.{tested}
use Rattle.flow_script.specs.Numbers.{number_at}
use Rattle.flow_script.specs.Shown.{kept_numbers}
use Rattle.flow_script.proofs.CallLemmas.{tells}
use Rattle.flow_script.proofs.flow_steps.unsubscribe.Goals as goal

pub returns : goal.returns
returns g c =
    let n = kept_numbers c.args.numbers.now in
    tells g.F.FlowCore.kind g.F.ScriptCore.played g.F.FlowCore.stands_as c.law_answers.ensures (step.Unsubscribe c.args.place) _ _ (g.F.FlowCore.kind.tested c.unsubscribe.result)
    c.args.core.now c.unsubscribe.new.self n n (tested c.unsubscribe.result) (ap (option_map g.F.FlowCore.kind.unsubscribe) {x = number_at c.args.place n.subscribers} (sym c.in-Some.ensures)) c.unsubscribe.ensures
    (c.law_answers.ensures.left (number_of c.in-Some.id) c.unsubscribe.result) refl
