use Rattle.std.proofs.Common.{rules, ◌≡◌, ap, subst, sym, w64, ◌∙◌}
use Rattle.std.specs.Prelude.{IfOk}
use Rattle.std.proofs.Math.Facts.{to_z-of_z}
use mir.Val.{to_z, of_z}
use Rattle.flow_law.specs.flow.SharedHistory.{shared_flow}
use Rattle.flow_law.specs.flow.Standing.{StandsFor}
use Rattle.script_format.specs.declared.script.FlowStep.{FlowStep}
use Rattle.script_format.specs.declared.script.FlowStep.TheVariants.{Emit}
use Rattle.flow_script.specs.FlowMeaning.{own_turn}
use Rattle.flow_script.specs.SharedMeaning.{plays_shared}
use Rattle.flow_script.specs.Shown.{FollowsStep}
use Rattle.flow_script.proofs.shared_calls.SharedCoreI64ScriptCore.own_step.Goals as goal

pub returns-in-Emit-clause-plays : goal.returns-in-Emit-clause-plays
returns-in-Emit-clause-plays c =
    let same : to_z w64 (of_z w64 c.in-Emit.value) ≡ c.in-Emit.value = search (rules, to_z-of_z) in
    let plays = λ (step : FlowStep). IfOk c.emit.result (FollowsStep StandsFor (own_turn shared_flow plays_shared step)
    c.args.self.now c.emit.new.core c.args.numbers.now c.emit.new.numbers) in
    subst plays (ap Emit same ∙ sym c.in-Emit.is) c.emit.ensures.plays
