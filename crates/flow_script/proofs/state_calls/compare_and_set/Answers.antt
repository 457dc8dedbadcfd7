use Rattle.std.proofs.Common.{refl, subst, w64}
use Rattle.std.proofs.Math.Facts.{to_z-of_z}
use mir.Val.{to_z, of_z}
use Rattle.flow_law.specs.declared.call.StateCall.TheVariants.{CompareAndSet}
use Rattle.flow_law.specs.declared.call.StateReply.TheVariants.{Answered}
use Rattle.flow_law.specs.flow.StateFlow.{state_flow}
use Rattle.flow_law.specs.flow.Standing.{StateConforms}
use Rattle.script_format.specs.declared.script.FlowStep.TheVariants as step
use Rattle.flow_script.specs.Answers.{tested}
use Rattle.flow_script.specs.StateMeaning.{IsState, plays_state}
use Rattle.flow_script.specs.Shown.{kept_numbers}
use Rattle.flow_script.proofs.CallLemmas.{tells}
use Rattle.flow_script.proofs.AnswerLemmas.{state-answers}
use Rattle.flow_script.proofs.state_calls.compare_and_set.Goals as goal

pub returns-clause-plays : goal.returns-clause-plays
returns-clause-plays c =
    let old = c.args.core.now in
    let new = c.compare_and_set.new.self in
    let expect = c.args.expect in
    let update = c.args.update in
    let answer = Answered c.compare_and_set.result in
    let expected = subst (λ v. StateConforms old (CompareAndSet v (to_z w64 (of_z w64 update))) answer new) (to_z-of_z c.ranges.expect) c.compare_and_set.ensures.documented in
    let conforms = subst (λ v. StateConforms old (CompareAndSet expect v) answer new) (to_z-of_z c.ranges.update) expected in
    let n = kept_numbers c.args.numbers.now in
    tells state_flow plays_state IsState state-answers (step.CompareAndSet expect update) _ (CompareAndSet expect update) answer
    old new n n (tested c.compare_and_set.result) refl conforms.0 (refl, refl) refl
