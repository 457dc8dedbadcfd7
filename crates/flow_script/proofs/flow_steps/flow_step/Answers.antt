use Rattle.std.proofs.Common.{rules, ◌≡◌, ap, subst, sym, w64, ◌∙◌}
use Rattle.std.specs.Prelude.{IfOk}
use Rattle.std.proofs.Math.Facts.{to_z-of_z}
use mir.Val.{to_z, of_z}
use Rattle.script_format.specs.declared.script.FlowStep.{FlowStep}
use Rattle.script_format.specs.declared.script.FlowStep.TheVariants as step
use Rattle.flow_script.specs.FlowMeaning.{flow_step_turn}
use Rattle.flow_script.specs.Shown.{FollowsStep}
use Rattle.flow_script.proofs.flow_steps.flow_step.Goals as goal

pub returns-in-TryEmit-clause-plays : goal.returns-in-TryEmit-clause-plays
returns-in-TryEmit-clause-plays g c =
    let same : to_z w64 (of_z w64 c.in-TryEmit.value) ≡ c.in-TryEmit.value = search (rules, to_z-of_z) in
    let plays = λ (st : FlowStep). IfOk c.try_emit.result (FollowsStep g.F.FlowCore.stands_as (flow_step_turn g.F.FlowCore.kind g.F.ScriptCore.played st)
    c.args.core.now c.try_emit.new.core c.args.numbers.now c.args.numbers.now) in
    subst plays (ap step.TryEmit same ∙ sym c.in-TryEmit.is) c.try_emit.ensures.plays
