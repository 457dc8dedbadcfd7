use Rattle.std.proofs.Common.{◌≡◌, ◌++◌, List, Option, map}
use Rattle.script_format.specs.Actions.{actions_of}
use Rattle.flow_script.specs.Rows.{ShowsRow}
use Rattle.flow_script.specs.Answers.{as_answer}
use Rattle.flow_script.specs.ScriptMeaning.{PlayedFlow, answers_from}
use Rattle.flow_script.proofs.playing.play_steps.Given as goal

-- the answers so far and those of the rest are all answers
abbrev pub invariant-loop-step : goal.invariant-loop-step
invariant-loop-step l = (first : List (Option PlayedFlow)) → ShowsRow l.fn.row.items first →
    (row : List (Option PlayedFlow)) × ShowsRow l.row.items row
    × (map as_answer l.answers.items ++ answers_from row (actions_of l.step-iterator.rest.items) ≡ answers_from first (actions_of l.fn.steps.items))
