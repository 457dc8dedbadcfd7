-- The case of its documented flow that each step takes: what it did, where its answer does not say it.
-- Begin with `step_case`. The cases of emissions are those of EmitRule in flow_law.
use Rattle.std.specs.Prelude.{ℕ, ℤ, List, [], ◌∷◌, ◌++◌, if◌then◌else◌, Option, Some, None, option_and_then, Result, Ok, Err}
use Rattle.std.specs.Option.{option_map_or}
use Rattle.std.specs.Ordering.{int_eq}
use Rattle.flow_law.specs.flow.EmitRule.{EmitCase, appends, offers, queues, drops_latest, drops_oldest, emit_case}
use Rattle.flow_law.specs.declared.states.SharedFlowState.{SharedFlowState}
use Rattle.flow_law.specs.declared.states.StateFlowState.{StateFlowState}
use Rattle.script_chain_format.specs.declared.reading.fault.ScriptFault.{ScriptFault}
use Rattle.script_chain_format.specs.Results.{result_map}
use Rattle.script_format.specs.Actions.{Action, on_flow, subscribe_with, collect}
use Rattle.script_format.specs.Checks.{read_script}
use Rattle.script_format.specs.Heads.{NamedHead}
use Rattle.script_format.specs.declared.script.FlowStep.{FlowStep}
use Rattle.script_format.specs.declared.script.FlowStep.TheVariants as step
use Rattle.flow_script.specs.declared.case.Case.{Case}
use Rattle.flow_script.specs.declared.case.Case.TheVariants.{Plain, Appends, Offers, Queues, DropsLatest, DropsOldest, Stores, Conflates, Keeps}
use Rattle.flow_script.specs.Answers.{Answer}
use Rattle.flow_script.specs.ScriptMeaning.{Answers, Player, PlayedFlow, shared, state, first_played, flow_at, turn, player_of, answers_of}

-- ---- steps

-- the case of an emission into a shared flow
abbrev pub as_case : EmitCase → Case
as_case appends = Appends
as_case offers = Offers
as_case queues = Queues
as_case drops_latest = DropsLatest
as_case drops_oldest = DropsOldest

-- the case of a step on a shared flow: that of its emission
abbrev pub shared_case : FlowStep → SharedFlowState ℤ → Case
shared_case (step.TryEmit value) s = as_case (emit_case s)
shared_case (step.Emit value) s = as_case (emit_case s)
shared_case _ s = Plain

-- the case of a value that a state flow takes: it becomes the current one, or is the current one already
abbrev pub stored_case : ℤ → StateFlowState ℤ → Case
stored_case value s = if int_eq s.value value then Conflates else Stores

-- the case of a step on a state flow
abbrev pub state_case : FlowStep → StateFlowState ℤ → Case
state_case (step.TryEmit value) s = stored_case value s
state_case (step.Set value) s = stored_case value s
state_case (step.CompareAndSet expect update) s = if int_eq s.value expect then stored_case update s else Keeps
state_case _ s = Plain

-- the case of a step on a flow; a step on a shared chain has none, since the answer of a turn says what it did
abbrev pub player_case : FlowStep → Player → Case
player_case step (shared s) = shared_case step s
player_case step (state s) = state_case step s
player_case step _ = Plain

-- the case of a step on what is at a place: none if the flow was refused when it was made
abbrev pub place_case : FlowStep → Option PlayedFlow → Case
place_case step None = Plain
place_case step (Some flow) = player_case step flow.player

-- the case of a step of a script
abbrev pub step_case : Action → List (Option PlayedFlow) → Case
step_case (on_flow place step) row = place_case step (flow_at place row)
step_case (subscribe_with place first) row = Plain
step_case (collect build) row = Plain

-- ---- scripts

-- the cases of the steps, in order
abbrev pub cases_from : List (Option PlayedFlow) → List Action → List Case
cases_from row [] = []
cases_from row (action ∷ rest) = step_case action row ∷ cases_from (turn action row).state rest

-- the flows with one more; none if it is refused and has no name, which ends the script
abbrev pub with_place : Option (List ℕ) → Result Player Answer → List (Option PlayedFlow) → Option (List (Option PlayedFlow))
with_place name (Ok p) row = Some (row ++ Some (first_played p) ∷ [])
with_place None (Err answer) row = None
with_place (Some name) (Err answer) row = Some (row ++ None ∷ [])

-- the flows before the first step; none if a refusal ends the script
abbrev pub row_from : List NamedHead → List (Option PlayedFlow) → Option (List (Option PlayedFlow))
row_from [] row = Some row
row_from (named ∷ more) row = option_and_then (row_from more) (with_place named.name (player_of named.flow) row)

-- the cases of the steps of a script
abbrev pub cases_of : List NamedHead → List Action → List Case
cases_of flows steps = option_map_or (λ row. cases_from row steps) (row_from flows []) []

-- what a script did: its answers, and the case of each step
pub record Trace : Type 0 where
  pub answers : Answers
  pub cases : List Case

-- the trace of a script with these flows and steps
abbrev pub trace_of : List NamedHead → List Action → Trace
trace_of flows steps = record { answers = answers_of flows steps; cases = cases_of flows steps }

-- the trace of a script, or why it is refused
abbrev pub traced : List ℕ → Result Trace ScriptFault
traced bytes = result_map (λ script. trace_of script.flows script.steps) (read_script bytes)
