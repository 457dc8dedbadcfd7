use Rattle.std.proofs.Common.{◌≡◌, List, [], Option}
use Rattle.script_format.specs.Actions.{Action, heads_of}
use Rattle.flow_script.specs.Cases.{row_from}
use Rattle.flow_script.specs.Rows.{ShowsRow}
use Rattle.flow_script.specs.Said.{all_not_made}
use Rattle.flow_script.specs.ScriptMeaning.{PlayedFlow, after_refusals, answers_of, script_from}
use Rattle.flow_script.proofs.row.begin.Given as goal

-- the refusals so far and the answers of the rest are all answers
abbrev pub invariant-loop-named : goal.invariant-loop-named
invariant-loop-named l =
    (row : List (Option PlayedFlow)) × ShowsRow l.row.items row × (row_from (heads_of l.fn.flows.items) [] ≡ row_from (heads_of l.named-iterator.rest.items) row)
    × ((steps : List Action) → after_refusals (all_not_made l.fn.not_made.items) (answers_of (heads_of l.fn.flows.items) steps)
    ≡ after_refusals (all_not_made l.not_made.items) (script_from (heads_of l.named-iterator.rest.items) steps row))
