use Rattle.std.proofs.Common.{rules, ◌≡◌, ap, subst, sym, w64, ◌∙◌}
use Rattle.std.specs.Prelude.{IfOk}
use Rattle.std.proofs.Math.Facts.{to_z-of_z}
use mir.Val.{to_z, of_z}
use Rattle.flow_law.specs.flow.StateFlow.{state_flow}
use Rattle.script_format.specs.declared.script.FlowStep.{FlowStep}
use Rattle.script_format.specs.declared.script.FlowStep.TheVariants.{Set, CompareAndSet}
use Rattle.flow_script.specs.FlowMeaning.{own_turn}
use Rattle.flow_script.specs.StateMeaning.{IsState, plays_state}
use Rattle.flow_script.specs.Shown.{FollowsStep}
use Rattle.flow_script.proofs.state_calls.StateCoreI64ScriptCore.own_step.Goals as goal

pub returns-in-Set-clause-plays : goal.returns-in-Set-clause-plays
returns-in-Set-clause-plays c =
    let same : to_z w64 (of_z w64 c.in-Set.value) ≡ c.in-Set.value = search (rules, to_z-of_z) in
    let plays = λ (step : FlowStep). IfOk c.set.result (FollowsStep IsState (own_turn state_flow plays_state step)
    c.args.self.now c.set.new.core c.args.numbers.now c.args.numbers.now) in
    subst plays (ap Set same ∙ sym c.in-Set.is) c.set.ensures.plays

pub returns-in-CompareAndSet-clause-plays : goal.returns-in-CompareAndSet-clause-plays
returns-in-CompareAndSet-clause-plays c =
    let expect = c.in-CompareAndSet.expect in
    let update = c.in-CompareAndSet.update in
    let expected : to_z w64 (of_z w64 expect) ≡ expect = search (rules, to_z-of_z) in
    let updated : to_z w64 (of_z w64 update) ≡ update = search (rules, to_z-of_z) in
    let plays = λ (step : FlowStep). IfOk c.compare_and_set.result (FollowsStep IsState (own_turn state_flow plays_state step)
    c.args.self.now c.compare_and_set.new.core c.args.numbers.now c.args.numbers.now) in
    subst plays (ap (λ v. CompareAndSet v (to_z w64 (of_z w64 update))) expected ∙ ap (CompareAndSet expect) updated ∙ sym c.in-CompareAndSet.is) c.compare_and_set.ensures.plays

pub returns-in-Reset-clause-plays : goal.returns-in-Reset-clause-plays
returns-in-Reset-clause-plays c =
    let plays = λ (step : FlowStep). IfOk c.reset.result (FollowsStep IsState (own_turn state_flow plays_state step)
    c.args.self.now c.reset.new.core c.args.numbers.now c.args.numbers.now) in
    subst plays (sym c.in-Reset.is) c.reset.ensures.plays
