use Rattle.std.proofs.Common.{◌++◌, map, sym, ap, ◌∙◌, append-nil}
use Rattle.script_format.specs.Actions.{action_of, actions_of}
use Rattle.flow_script.specs.Answers.{as_answer}
use Rattle.flow_script.specs.Cases.{cases_from}
use Rattle.flow_script.specs.ScriptMeaning.{answers_from, turn}
use Rattle.flow_script.specs.Traces.{seen_case}
use Rattle.flow_script.proofs.PlayLemmas.{none-left}
use Rattle.flow_script.proofs.RowLemmas.{next_answers, next_cases}
use Rattle.flow_script.proofs.tracing.watch_steps.Goals as goal

pub loop-step-init : goal.loop-step-init
loop-step-init c = λ first shows. (
  first,
  shows,
  ap (λ l. map as_answer l ++ answers_from first (actions_of c.into_iter-step-iterator.result.rest.items)) c.new-answers.ensures.items
      ∙ ap (λ l. answers_from first (actions_of l)) c.into_iter-step-iterator.ensures.into_iter_gives.0,
  ap (λ l. map seen_case l ++ cases_from first (actions_of c.into_iter-step-iterator.result.rest.items)) c.new-all_seen.ensures.items
      ∙ ap (λ l. cases_from first (actions_of l)) c.into_iter-step-iterator.ensures.into_iter_gives.0,
)

pub loop-step-preserved : goal.loop-step-preserved
loop-step-preserved c = λ first shows.
    let before = c.loop-step.invariant first shows in
    let step = c.in-Some.step in
    let done = c.in_ok-answer.ensures.plays before.0 before.1 in (
      (turn (action_of step) before.0).state,
      done.0,
      next_answers before.0 step _ _ _ _ _ _ c.in-Some.ensures.steps.0 c.in_ok-push.ensures.items done.1 before.2,
      next_cases before.0 step _ _ _ _ _ _ c.in-Some.ensures.steps.0 c.in_ok-push-2.ensures.items (c.in_ok-answer.ensures.case before.0 before.1) before.3,
    )

pub returns-clause-plays : goal.returns-clause-plays
returns-clause-plays c = λ first shows.
    let whole = c.loop-step.invariant first shows in
    let left = c.loop-step.step-iterator.rest in
    let over = none-left left.items (sym left.ok.0 ∙ c.in-None.ensures.steps.0) in
    sym (append-nil _) ∙ ap (λ l. map as_answer c.loop-step.answers.items ++ answers_from whole.0 (actions_of l)) (sym over) ∙ whole.2

pub returns-clause-cases : goal.returns-clause-cases
returns-clause-cases c = λ first shows.
    let whole = c.loop-step.invariant first shows in
    let left = c.loop-step.step-iterator.rest in
    let over = none-left left.items (sym left.ok.0 ∙ c.in-None.ensures.steps.0) in
    sym (append-nil _) ∙ ap (λ l. map seen_case c.loop-step.all_seen.items ++ cases_from whole.0 (actions_of l)) (sym over) ∙ whole.3
