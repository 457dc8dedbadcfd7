-- What the player's row of flows stands for, and how it is made and played. No public clause cites this module.
use Rattle.std.specs.Prelude.{◌≡◌, Bool, true, false, List, [], map, Option, Some, None, Vec}
use Rattle.std.specs.List.{AllZip}
use Rattle.std.specs.declared.alloc.Global.{Global}
use Rattle.flow_law.specs.sharing.Steps.{After}
use Rattle.script_format.specs.Actions.{Action}
use Rattle.script_format.specs.Heads.{NamedHead}
use Rattle.flow_script.specs.declared.row.PlayedFlow.{PlayedFlow as Kept}
use Rattle.flow_script.specs.declared.answer.Answer.{Answer as Given}
use Rattle.flow_script.specs.declared.trace.Seen.{Seen}
use Rattle.flow_script.specs.Answers.{Answer, as_answer}
use Rattle.flow_script.specs.Players.{ShowsPlayer}
use Rattle.flow_script.specs.ScriptMeaning.{Answers, NotMade, Play, PlayedFlow, after_refusals, answers_from, answers_of, only_steps, place_turn, player_of, with_flow}
use Rattle.flow_script.specs.Cases.{cases_from, with_place, row_from}
use Rattle.flow_script.specs.Traces.{seen_case}
use Rattle.flow_script.specs.Shown.{kept_numbers}

-- a flow of the player, with its names, stands for one of the definitions
abbrev pub ShowsFlow : Kept → PlayedFlow → Type 0
ShowsFlow kept flow = ShowsPlayer kept.player flow.player × (kept_numbers kept.numbers ≡ flow.numbers)

-- a place of the player, with a flow or none, stands for one of the definitions
abbrev pub ShowsPlace : Option Kept → Option PlayedFlow → Type 0
ShowsPlace (Some kept) (Some flow) = ShowsFlow kept flow
ShowsPlace None None = Unit {0}
ShowsPlace _ _ = ⊥

-- a row of the player stands for one of the definitions, place by place
abbrev pub ShowsRow : List (Option Kept) → List (Option PlayedFlow) → Type 0
ShowsRow kept row = AllZip ShowsPlace kept row

-- a step is played on what is at a place, with this answer
abbrev pub FollowsPlace : Play → Option Kept → Option Kept → Given → Type 0
FollowsPlace play old new answer =
    (place : Option PlayedFlow) → ShowsPlace old place →
    ShowsPlace new (place_turn play place).state × (as_answer answer ≡ (place_turn play place).result)

-- a step is played on a row of flows, with this answer
abbrev pub FollowsRow : (List (Option PlayedFlow) → After Answer (List (Option PlayedFlow))) → List (Option Kept) → List (Option Kept) → Given → Type 0
FollowsRow step old new answer =
    (row : List (Option PlayedFlow)) → ShowsRow old row →
    ShowsRow new (step row).state × (as_answer answer ≡ (step row).result)

-- steps are played one after the other, with these answers
abbrev pub FollowsSteps : List Action → List (Option Kept) → List Given → Type 0
FollowsSteps actions old answers =
    (row : List (Option PlayedFlow)) → ShowsRow old row → map as_answer answers ≡ answers_from row actions

-- steps are played one after the other, and took these cases
abbrev pub TakesCases : List Action → List (Option Kept) → List Seen → Type 0
TakesCases actions old seen =
    (row : List (Option PlayedFlow)) → ShowsRow old row → map seen_case seen ≡ cases_from row actions

-- One more flow is made. If the script continues, the answers of its rest follow the refusals so far; otherwise these are all answers
abbrev pub AddsFlow : NamedHead → Bool → List (Option Kept) → List (Option Kept) → List NotMade → List NotMade → Type 0
AddsFlow named true old new before after =
    (row : List (Option PlayedFlow)) → ShowsRow old row →
    (later : List (Option PlayedFlow)) × ShowsRow new later × (with_place named.name (player_of named.flow) row ≡ Some later)
    × ((rest : List (Option PlayedFlow) → Answers) → after_refusals before (with_flow named.name (player_of named.flow) rest row) ≡ after_refusals after (rest later))
AddsFlow named false old new before after =
    (row : List (Option PlayedFlow)) →
    (with_place named.name (player_of named.flow) row ≡ None)
    × ((rest : List (Option PlayedFlow) → Answers) → after_refusals before (with_flow named.name (player_of named.flow) rest row) ≡ after_refusals after (only_steps []))

-- the flows before the first step, or none if a refusal ends the script
abbrev pub BeginsScript : List NamedHead → List NotMade → List NotMade → Option (Vec (Option Kept) Global) → Type 0
BeginsScript flows before after (Some made) =
    (row : List (Option PlayedFlow)) × ShowsRow made.items row × (row_from flows [] ≡ Some row)
    × ((steps : List Action) → after_refusals before (answers_of flows steps) ≡ after_refusals after (only_steps (answers_from row steps)))
BeginsScript flows before after None =
    (row_from flows [] ≡ None) × ((steps : List Action) → after_refusals before (answers_of flows steps) ≡ after_refusals after (only_steps []))
