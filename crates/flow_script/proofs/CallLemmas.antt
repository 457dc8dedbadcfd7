-- A call of a core, as the documented flow's call with its answer.
use Rattle.std.proofs.Common.{◌≡◌, ℤ, Option, Some, sym, ap, subst, ◌∙◌}
use Rattle.flow_law.specs.declared.fault.FlowFault.{FlowFault}
use Rattle.flow_law.specs.history.History.{Kind}
use Rattle.flow_law.specs.flow.Standing.{Documents}
use Rattle.script_format.specs.declared.script.FlowStep.{FlowStep}
use Rattle.flow_script.specs.declared.answer.Answer.{Answer as Given}
use Rattle.flow_script.specs.Answers.{Answer, as_answer}
use Rattle.flow_script.specs.FlowMeaning.{Played, HasAnswers, IsAnswer, given, turn_by, with_number}
use Rattle.flow_script.specs.Numbers.{Numbers}
use Rattle.flow_script.specs.Refusals.{AnswersRefusal}

module _ {K S C R : Type 0} (kind : Kind ℤ S C R) (played : Played S C R) (Stands : K → S → Type 0) (answers : HasAnswers kind played) where
  -- a call whose reply a line reports is the documented one
  pub tells : (step : FlowStep) (o : Option C) (call : C) (reply : R) (old new : K) (n m : Numbers) (answer : Answer) → o ≡ Some call
      → Documents kind Stands old call reply new → IsAnswer kind played answers.is_told call reply answer → m ≡ with_number step (given kind played call reply) n
      → (s : S) → Stands old s →
      Stands new (turn_by kind played o step s n).after × (m ≡ (turn_by kind played o step s n).numbers) × (answer ≡ (turn_by kind played o step s n).answer)
  tells step o call reply old new n m answer makes documents is numbers s stands =
      let both = documents s stands in
      let same : reply ≡ played.reply_to call s = answers.documented s call reply both.0 is.0 in
      subst (λ c. Stands new (turn_by kind played c step s n).after × (m ≡ (turn_by kind played c step s n).numbers) × (answer ≡ (turn_by kind played c step s n).answer))
      (sym makes) (
        subst (λ r. Stands new (kind.after s call r)) same both.1,
        numbers ∙ ap (λ r. with_number step (given kind played call r) n) same,
        sym is.1 ∙ ap (played.answer call) same,
      )

  -- the answer of a call that is refused is the documented one
  pub refuses : (call : C) (fault : FlowFault) (answer : Given) → AnswersRefusal fault answer → IsAnswer kind played answers.is_told call (kind.refused fault) (as_answer answer)
  refuses call fault answer is =
      let told = answers.refused call fault is.0 in
      (told.0, told.1 ∙ sym is.1)
