-- What a script means: its answers and their text, or the fault that refuses it.
-- Begin with `script_meaning`: the checks of Checks, then the steps over the documented flows, each with its answer.
use Rattle.std.specs.Prelude.{ℕ, ℤ, List, [], ◌∷◌, ◌++◌, slice_get, slice_set, Option, Some, None, option_and_then, Result, Ok, Err, codes}
use Rattle.std.specs.Option.{option_map_or}
use Rattle.flow_law.specs.flow.SharedFlow.{config_fault, first_state}
use Rattle.script_chain_format.specs.declared.reading.fault.ScriptFault.{ScriptFault}
use Rattle.script_format.specs.Heads.{Head, NamedHead, shared_chain, state_chain}
use Rattle.script_format.specs.Heads as head
use Rattle.script_format.specs.Actions.{Action, on_flow, subscribe_with, collect}
use Rattle.script_chain_format.specs.Results.{result_map}
use Rattle.script_format.specs.Checks.{read_script}
use Rattle.flow_script.specs.Answers.{Answer, refused, turn_refused, no_flow, collection_answer}
use Rattle.flow_script.specs.Lines.{lined, line_of, lines_of}
use Rattle.flow_law.specs.declared.report.ShareFault.TheVariants.{Chain, Flow}
use Rattle.flow_turns.specs.ShareIn.{share_config}
use Rattle.flow_law.specs.declared.states.EmittingFlow.{EmittingFlow}
use Rattle.flow_law.specs.declared.states.SharedFlowState.{SharedFlowState}
use Rattle.flow_law.specs.declared.states.StateFlowState.{StateFlowState}
use Rattle.flow_law.specs.declared.states.StateAndInitial.{StateAndInitial}
use Rattle.flow_law.specs.flow.SharedHistory.{shared_flow}
use Rattle.flow_law.specs.sharing.Steps.{After}
use Rattle.flow_law.specs.sharing.SharingFlows.{shared_reply, state_reply}
use Rattle.flow_law.specs.flow.StateFlow.{first_state_flow, state_flow}
use Rattle.script_format.specs.declared.script.FlowStep.{FlowStep}
use Rattle.script_format.specs.declared.script.FlowStep.TheVariants as step
use Rattle.flow_script.specs.FlowMeaning.{Turn, as_part, flow_step_turn, without_call}
use Rattle.flow_script.specs.Numbers.{Numbers, no_numbers}
use Rattle.flow_script.specs.SharedMeaning.{plays_shared, subscribes_with}
use Rattle.flow_script.specs.SharingMeaning.{SharingPlay, first_sharing, beside_emission, beside_initial, sharing_step}
use Rattle.flow_script.specs.StateMeaning.{plays_state}

-- ---- players

-- what the steps on a flow are played on
pub data Player : Type 0 where
  shared : SharedFlowState ℤ → Player
  state : StateFlowState ℤ → Player
  share : SharingPlay (EmittingFlow ℤ) → Player
  state_in : SharingPlay (StateAndInitial ℤ) → Player

-- ---- steps

-- a step on a shared flow
abbrev pub shared_turn : FlowStep → SharedFlowState ℤ → Numbers → Turn (SharedFlowState ℤ)
shared_turn = flow_step_turn shared_flow plays_shared

-- a step on a state flow
abbrev pub state_turn : FlowStep → StateFlowState ℤ → Numbers → Turn (StateFlowState ℤ)
state_turn = flow_step_turn state_flow plays_state

-- a step on a flow of any kind
abbrev pub player_turn : FlowStep → Player → Numbers → Turn Player
player_turn step (shared s) n = as_part shared (shared_turn step s n)
player_turn step (state s) n = as_part state (state_turn step s n)
player_turn step (share p) n = as_part share (sharing_step (beside_emission shared_turn) shared_reply step p n)
player_turn step (state_in p) n = as_part state_in (sharing_step (beside_initial state_turn) state_reply step p n)

-- a subscription with first values of its own; only a shared flow into which no chain is shared has it
abbrev pub player_subscribes_with : List ℤ → Player → Numbers → Turn Player
player_subscribes_with first (shared s) n = as_part shared (subscribes_with first s n)
player_subscribes_with first other n = without_call step.Subscribe other n

-- ---- rows of flows

-- a flow that was made, and what the names of its steps stand for
pub record PlayedFlow : Type 0 where
  pub player : Player
  pub numbers : Numbers

-- a flow before its first step
abbrev pub first_played : Player → PlayedFlow
first_played p = record { player = p; numbers = no_numbers }

-- what a step does on a flow
abbrev pub Play : Type 0
Play = Player → Numbers → Turn Player

-- a step's answer, and what it leaves, on what is at a place: nothing if the flow was refused when it was made
abbrev pub place_turn : Play → Option PlayedFlow → After Answer (Option PlayedFlow)
place_turn play None = record { result = no_flow; state = None }
place_turn play (Some flow) =
    let t = play flow.player flow.numbers in
    record { result = t.answer; state = Some (record { player = t.after; numbers = t.numbers }) }

-- the flow at a place, if it was made
abbrev pub flow_at : ℕ → List (Option PlayedFlow) → Option PlayedFlow
flow_at place row = option_and_then (λ flow. flow) (slice_get row place)

-- a step on the flow at a place; it leaves all other places as they were
abbrev pub turn_at : ℕ → Play → List (Option PlayedFlow) → After Answer (List (Option PlayedFlow))
turn_at place play row =
    let t = place_turn play (flow_at place row) in
    record { result = t.result; state = slice_set row place t.state }

-- a step of a script; a collection acts on no flow
abbrev pub turn : Action → List (Option PlayedFlow) → After Answer (List (Option PlayedFlow))
turn (on_flow place step) row = turn_at place (player_turn step) row
turn (subscribe_with place first) row = turn_at place (player_subscribes_with first) row
turn (collect build) row = record { result = collection_answer build; state = row }

-- the answers of the steps, in order
abbrev pub answers_from : List (Option PlayedFlow) → List Action → List Answer
answers_from row [] = []
answers_from row (action ∷ rest) = (turn action row).result ∷ answers_from (turn action row).state rest

-- ---- scripts

-- what the steps on a flow are played on, or the answer of a flow that is refused when it is made
abbrev pub player_of : Head → Result Player Answer
player_of (head.shared_flow config) = option_map_or (λ fault. Err (refused fault)) (config_fault config) (Ok (shared (first_state config)))
player_of (head.state_flow initial limit) = Ok (state (first_state_flow limit initial))
player_of (shared_chain (Err fault) started replay limit) = Err (turn_refused (Chain fault))
player_of (shared_chain (Ok chain) started replay limit) =
    option_map_or (λ fault. Err (turn_refused (Flow fault))) (config_fault (share_config replay limit))
    (Ok (share (first_sharing chain.run started (record { flow = first_state (share_config replay limit); waiting = None }))))
player_of (state_chain (Err fault) started initial limit) = Err (turn_refused (Chain fault))
player_of (state_chain (Ok chain) started initial limit) =
    Ok (state_in (first_sharing chain.run started (record { flow = first_state_flow limit initial; initial = initial })))

-- a flow that was refused when it was made: its name, if it has one, and why
pub record NotMade : Type 0 where
  pub name : Option (List ℕ)
  pub answer : Answer

-- all answers of a script: first those of the flows that were refused when they were made, then those of its steps
pub record Answers : Type 0 where
  pub not_made : List NotMade
  pub steps : List Answer

-- a flow of this name was refused with this answer
abbrev pub not_made_flow : Option (List ℕ) → Answer → NotMade
not_made_flow name answer = record { name = name; answer = answer }

-- the answers with these refusals before their own
abbrev pub after_refusals : List NotMade → Answers → Answers
after_refusals before rest = record rest { not_made = before ++ rest.not_made }

-- the answers of the steps, without any refused flow
abbrev pub only_steps : List Answer → Answers
only_steps steps = record { not_made = []; steps = steps }

-- One more flow is made, and the rest of the script follows. A refused flow with a name leaves its place empty; a refused flow without a
-- name ends the script with its answer.
abbrev pub with_flow : Option (List ℕ) → Result Player Answer → (List (Option PlayedFlow) → Answers) → List (Option PlayedFlow) → Answers
with_flow name (Ok p) rest row = rest (row ++ Some (first_played p) ∷ [])
with_flow None (Err answer) rest row = after_refusals (not_made_flow None answer ∷ []) (only_steps [])
with_flow (Some name) (Err answer) rest row = after_refusals (not_made_flow (Some name) answer ∷ []) (rest (row ++ None ∷ []))

-- the flows are made in order, and then the steps are played
abbrev pub script_from : List NamedHead → List Action → List (Option PlayedFlow) → Answers
script_from [] steps row = only_steps (answers_from row steps)
script_from (named ∷ more) steps row = with_flow named.name (player_of named.flow) (script_from more steps) row

-- all answers of a script
abbrev pub answers_of : List NamedHead → List Action → Answers
answers_of flows steps = script_from flows steps []

-- ---- texts

-- the line of a flow that was refused: it begins with the flow's name, if it has one
abbrev pub not_made_line : NotMade → List ℕ
not_made_line flow = option_map_or (λ name. name ++ codes " ") flow.name [] ++ line_of flow.answer

-- the lines of the flows that were refused
abbrev pub not_made_lines : List NotMade → List ℕ
not_made_lines [] = []
not_made_lines (flow ∷ more) = lined (not_made_line flow) ++ not_made_lines more

-- the text of a script's answers: a line for each answer
abbrev pub text_of : Answers → List ℕ
text_of answers = not_made_lines answers.not_made ++ lines_of answers.steps

-- the answers of a script, or why it is refused
abbrev pub answered : List ℕ → Result Answers ScriptFault
answered bytes = result_map (λ script. answers_of script.flows script.steps) (read_script bytes)

-- the text that a script writes, or why it is refused
abbrev pub script_meaning : List ℕ → Result (List ℕ) ScriptFault
script_meaning bytes = result_map text_of (answered bytes)
