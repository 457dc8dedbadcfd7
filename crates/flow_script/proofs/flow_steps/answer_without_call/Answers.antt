use Rattle.std.proofs.Common.{◌≡◌, ℕ, refl}
use Rattle.script_format.specs.declared.script.FlowStep.{FlowStep}
use Rattle.script_format.specs.declared.script.FlowStep.TheVariants as step
use Rattle.flow_script.specs.Answers.{no_flow}
use Rattle.flow_script.specs.FlowMeaning.{answer_without_call}
use Rattle.flow_script.proofs.flow_steps.answer_without_call.Goals as goal

other-answer : (s : FlowStep) → ((place : ℕ) → s ≡ step.Poll place → ⊥) → ((place : ℕ) → s ≡ step.Next place → ⊥) → ((place : ℕ) → s ≡ step.Cancel place → ⊥)
    → ((place : ℕ) → s ≡ step.Unsubscribe place → ⊥) → no_flow ≡ answer_without_call s
other-answer (step.Poll place) poll next cancel leave = absurd (poll place refl)
other-answer (step.Next place) poll next cancel leave = absurd (next place refl)
other-answer (step.Cancel place) poll next cancel leave = absurd (cancel place refl)
other-answer (step.Unsubscribe place) poll next cancel leave = absurd (leave place refl)
other-answer _ poll next cancel leave = refl

pub returns-in_default : goal.returns-in_default
returns-in_default c = other-answer c.args.step c.in_default.not-Poll c.in_default.not-Next c.in_default.not-Cancel c.in_default.not-Unsubscribe
