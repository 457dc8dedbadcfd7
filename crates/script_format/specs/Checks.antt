-- Why a script is refused: the first fault that is found refuses it, and these definitions fix the order of the checks.
-- Begin with `read_script`. The forms are in Format.
use Rattle.std.specs.Prelude.{ℕ, ◌+◌, Bool, false, not, ◌||◌, nat_lt, if◌then◌else◌, ℤ, codes, List, [], ◌∷◌, ◌++◌, length, slice_get, slice_set, replicate, position, Option, Some, is_some, Result, Ok, Err, Vec}
use Rattle.std.specs.Prelude.{option_map, option_and_then}
use Rattle.std.specs.Option.{option_map_or}
use Rattle.std.specs.List.{list_any}
use Rattle.std.specs.Str.{is_utf8, bytes_eq}
use Rattle.std.specs.declared.alloc.Global.{Global}
use Rattle.serde_json.specs.Data.{Data, Items, no_items, item}
use Rattle.serde_json.specs.Read.{read}
use Rattle.serde_json.specs.Events.{items_len}
use Rattle.serde_json.specs.Find.{get, as_array, as_object}
use Rattle.serde_json.specs.View.{view}
use Rattle.serde_json.specs.declared.value.Value.{Value as JsonValue}
use Rattle.script_chain_format.specs.declared.reading.fault.ScriptFault.{ScriptFault}
use Rattle.script_chain_format.specs.declared.reading.fault.ScriptFault.TheVariants.{NotJson, BadVersion, BadShape, UnknownName, DuplicateName, TooLarge}
use Rattle.script_chain_format.specs.Results.{result_then, result_map, or_fault}
use Rattle.script_format.specs.declared.script.Script.{Script}
use Rattle.script_format.specs.declared.script.FlowStep.{FlowStep}
use Rattle.script_format.specs.declared.script.FlowStep.TheVariants as step
use Rattle.script_format.specs.declared.script.Step.{Step}
use Rattle.script_format.specs.Actions.{Action, on_flow, collect, action_of, actions_of, heads_of}
use Rattle.script_format.specs.Actions as action
use Rattle.script_chain_format.specs.ChainFormat.{Build, chain_in}
use Rattle.script_format.specs.declared.verb.Verb.{Verb}
use Rattle.script_format.specs.declared.verb.Verb.TheVariants.{Flow, Collect}
use Rattle.script_format.specs.declared.verb.FlowVerb.{FlowVerb}
use Rattle.script_format.specs.declared.verb.FlowVerb.TheVariants.{TryEmit, Emit, Poll, Cancel, Subscribe, SubscribeWith, Next, Unsubscribe, Cache, Count, Reset, Value, Set, CompareAndSet, Turn}
use Rattle.script_chain_format.specs.Members.{u64_at, i64_at, where_true, version_of}
use Rattle.script_format.specs.NameForm.{name_at}
use Rattle.script_format.specs.Format.{allows, verb_of}
use Rattle.script_format.specs.Flows.{head_in}
use Rattle.script_format.specs.Heads.{NamedHead, kind_at}
use Rattle.script_chain_format.specs.SourceFormat.{whole_numbers_of, whole_numbers}
use Rattle.script_chain_format.specs.declared.reading.version.Version.{Version}
use Rattle.script_chain_format.specs.declared.reading.version.Version.TheVariants.{One, Two}

-- the most bytes of a script
abbrev pub most_bytes : ℕ
most_bytes = 1048576

-- the most steps of a script
abbrev pub most_steps : ℕ
most_steps = 10000

-- ---- names

-- the names that were introduced for a flow, each kind in its order
pub record NameLists : Type 0 where
  pub emissions : List (List ℕ)
  pub subscribers : List (List ℕ)

-- no name was introduced
abbrev pub no_names : NameLists
no_names = record { emissions = []; subscribers = [] }

-- the place of a name among others
abbrev pub place_of : List ℕ → List (List ℕ) → Option ℕ
place_of name names = position (λ known. bytes_eq name known) names

-- whether the name was introduced for the flow, as an emission or as a subscriber
abbrev pub is_known : List ℕ → NameLists → Bool
is_known name names = list_any (λ known. bytes_eq name known) names.emissions || list_any (λ known. bytes_eq name known) names.subscribers

-- the names with one more emission
abbrev pub naming_emission : List ℕ → NameLists → NameLists
naming_emission name names = record names { emissions = names.emissions ++ name ∷ [] }

-- the names with one more subscriber
abbrev pub naming_subscriber : List ℕ → NameLists → NameLists
naming_subscriber name names = record names { subscribers = names.subscribers ++ name ∷ [] }

-- the names that were introduced for the flow at a place
abbrev pub names_at : ℕ → List NameLists → NameLists
names_at flow row = option_map_or (λ names. names) (slice_get row flow) no_names

-- the names after a step that introduces one; no name is introduced twice, even for another flow or another kind
abbrev pub introduced : ℕ → List ℕ → List NameLists → List NameLists → Result (List NameLists) ScriptFault
introduced at name row after = if list_any (is_known name) row then Err (DuplicateName at) else Ok after

-- the names after a step that introduces an emission
abbrev pub introduces_emission : ℕ → ℕ → List ℕ → List NameLists → Result (List NameLists) ScriptFault
introduces_emission flow at name row = introduced at name row (slice_set row flow (naming_emission name (names_at flow row)))

-- the names after a step that introduces a subscriber
abbrev pub introduces_subscriber : ℕ → ℕ → List ℕ → List NameLists → Result (List NameLists) ScriptFault
introduces_subscriber flow at name row = introduced at name row (slice_set row flow (naming_subscriber name (names_at flow row)))

-- which emission of the flow at a place the name stands for; `UnknownName` unless an earlier step introduced it for this flow
abbrev pub emission_at : ℕ → ℕ → List ℕ → List NameLists → Result ℕ ScriptFault
emission_at flow at name row = or_fault (UnknownName at) (place_of name (names_at flow row).emissions)

-- which subscriber of the flow at a place the name stands for; `UnknownName` unless an earlier step introduced it for this flow
abbrev pub subscriber_at : ℕ → ℕ → List ℕ → List NameLists → Result ℕ ScriptFault
subscriber_at flow at name row = or_fault (UnknownName at) (place_of name (names_at flow row).subscribers)

-- ---- steps

-- a step on a flow as it is written, before its flow and its name are looked up
pub data Written : Type 0 where
  plain : FlowStep → Written
  emit : List ℕ → ℤ → Written
  poll : List ℕ → Written
  cancel : List ℕ → Written
  subscribe : List ℕ → Written
  -- with the subscriber's own first values, which are whole numbers
  subscribe_with : List ℕ → Items → Written
  next : List ℕ → Written
  unsubscribe : List ℕ → Written

-- a subscriber's own first values
abbrev pub first_at : Data → Option Items
first_at d = option_and_then (λ values. where_true (is_some (whole_numbers values)) (Some values)) (option_and_then as_array (get (codes "first") d))

-- the expected value, and the value that replaces it
abbrev pub expected_and_new : Data → Option (ℤ × ℤ)
expected_and_new d = option_and_then (λ expect. option_map (λ update. (expect, update)) (i64_at (codes "update") d)) (i64_at (codes "expect") d)

-- the step with this verb, if its other keys have the right form
abbrev pub written_by : FlowVerb → Data → Option Written
written_by TryEmit d = option_map (λ value. plain (step.TryEmit value)) (i64_at (codes "value") d)
written_by Emit d = option_and_then (λ value. option_map (λ name. emit name value) (name_at (codes "name") d)) (i64_at (codes "value") d)
written_by Poll d = option_map poll (name_at (codes "name") d)
written_by Cancel d = option_map cancel (name_at (codes "name") d)
written_by Subscribe d = option_map subscribe (name_at (codes "name") d)
written_by SubscribeWith d = option_and_then (λ values. option_map (λ name. subscribe_with name values) (name_at (codes "name") d)) (first_at d)
written_by Next d = option_map next (name_at (codes "name") d)
written_by Unsubscribe d = option_map unsubscribe (name_at (codes "name") d)
written_by Cache d = Some (plain step.Cache)
written_by Count d = Some (plain step.Count)
written_by Reset d = Some (plain step.Reset)
written_by Value d = Some (plain step.Value)
written_by Set d = option_map (λ value. plain (step.Set value)) (i64_at (codes "value") d)
written_by CompareAndSet d = option_map (λ pair. plain (step.CompareAndSet pair.0 pair.1)) (expected_and_new d)
written_by Turn d = option_map (λ now. plain (step.Turn now)) (u64_at (codes "at") d)

-- a step, and the names that were introduced up to it
pub record Named : Type 0 where
  pub step : Action
  pub names : List NameLists

-- the step, with these names after it
abbrev pub with_names : List NameLists → Action → Named
with_names names step = record { step = step; names = names }

-- the most first values of a subscriber
abbrev pub most_first : ℕ
most_first = 10000

-- the step on the flow at a place: first its limit is checked, then its name, among those that were introduced before it
abbrev pub named_step : ℕ → ℕ → List NameLists → Written → Result Named ScriptFault
named_step flow at names (plain s) = Ok (with_names names (on_flow flow s))
named_step flow at names (emit name value) = result_map (λ after. with_names after (on_flow flow (step.Emit value))) (introduces_emission flow at name names)
named_step flow at names (poll name) = result_map (λ place. with_names names (on_flow flow (step.Poll place))) (emission_at flow at name names)
named_step flow at names (cancel name) = result_map (λ place. with_names names (on_flow flow (step.Cancel place))) (emission_at flow at name names)
named_step flow at names (subscribe name) = result_map (λ after. with_names after (on_flow flow step.Subscribe)) (introduces_subscriber flow at name names)
named_step flow at names (subscribe_with name values) =
    result_then (λ first. result_map (λ after. with_names after (action.subscribe_with flow first)) (introduces_subscriber flow at name names)) (whole_numbers_of at most_first values)
named_step flow at names (next name) = result_map (λ place. with_names names (on_flow flow (step.Next place))) (subscriber_at flow at name names)
named_step flow at names (unsubscribe name) = result_map (λ place. with_names names (on_flow flow (step.Unsubscribe place))) (subscriber_at flow at name names)

-- whether the flow has this name
abbrev pub is_named : List ℕ → NamedHead → Bool
is_named name flow = option_map_or (λ known. bytes_eq name known) flow.name false

-- the place of the flow with this name
abbrev pub place_named : List ℕ → List NamedHead → Option ℕ
place_named name flows = position (λ flow. is_named name flow) flows

-- the place of the flow that a step names; in version 1 a step names none, and acts on the only flow
abbrev pub place_at : Version → List NamedHead → ℕ → Data → Result ℕ ScriptFault
place_at One flows at d = Ok 0
place_at Two flows at d = result_then (λ name. or_fault (UnknownName at) (place_named name flows)) (or_fault (BadShape at) (name_at (codes "flow") d))

-- a step on a flow: checks the form of its keys, then its flow, then whether the flow allows the step, then limits and names
abbrev pub flow_step_by : Version → List NamedHead → FlowVerb → ℕ → List NameLists → Data → Result Named ScriptFault
flow_step_by version flows verb at names d =
    result_then (λ written. result_then (λ place. if allows verb (kind_at place flows) then named_step place at names written else Err (BadShape at))
    (place_at version flows at d)) (or_fault (BadShape at) (written_by verb d))

-- the chain of a collection
abbrev pub collected_in : Version → ℕ → Data → Result Build ScriptFault
collected_in version at d = result_then (chain_in version at) (or_fault (BadShape at) (get (codes "chain") d))

-- a step by its verb: on a flow, or a collection
abbrev pub step_by : Version → List NamedHead → Verb → ℕ → List NameLists → Data → Result Named ScriptFault
step_by version flows (Flow verb) at names d = flow_step_by version flows verb at names d
step_by version flows Collect at names d = result_map (λ build. with_names names (collect build)) (collected_in version at d)

-- a step, and the names after it
abbrev pub step_of : Version → List NamedHead → ℕ → List NameLists → Data → Result Named ScriptFault
step_of version flows at names d = result_then (λ verb. step_by version flows verb at names d) (or_fault (BadShape at) (verb_of version d))

-- the steps in order, up to the first one that is refused
abbrev pub steps_of : Version → List NamedHead → ℕ → List NameLists → Items → Result (List Action) ScriptFault
steps_of version flows at names no_items = Ok []
steps_of version flows at names (item d ds) =
    result_then (λ named. result_map (λ steps. named.step ∷ steps) (steps_of version flows (at + 1) named.names ds)) (step_of version flows at names d)

-- the names before the first step: none for each flow
abbrev pub nothing_named : List NamedHead → List NameLists
nothing_named flows = replicate (length flows) no_names

-- ---- scripts

-- a script that is not refused
pub record Checked : Type 0 where
  pub flows : List NamedHead
  pub steps : List Action

-- the script of a head: checks the number of steps, then the steps
abbrev pub checked : Version → List NamedHead × Items → Result Checked ScriptFault
checked version head =
    if nat_lt most_steps (items_len head.1) then Err (TooLarge 0)
    else result_map (λ steps. record { flows = head.0; steps = steps }) (steps_of version head.0 1 (nothing_named head.0) head.1)

-- the script of the data: checks that it is an object, then its version, then its head, then its steps
abbrev pub script_of : Data → Result Checked ScriptFault
script_of d =
    if not (is_some (as_object d)) then Err (BadShape 0)
    else result_then (λ version. result_then (checked version) (head_in version d)) (or_fault BadVersion (version_of d))

-- the data of a JSON text
abbrev pub json_of : List ℕ → Result Data ScriptFault
json_of bytes = if is_utf8 bytes then or_fault NotJson (read bytes) else Err NotJson

-- what a script says, or the first fault that is found: in its length, in its JSON text, or in what the text says
abbrev pub read_script : List ℕ → Result Checked ScriptFault
read_script bytes = if nat_lt most_bytes (length bytes) then Err (TooLarge 0) else result_then script_of (json_of bytes)

-- ---- what a reader gives

-- a result with the names after it
abbrev pub then_names : Result (Unit {0}) ScriptFault → List NameLists → Result (List NameLists) ScriptFault
then_names r names = result_map (λ _. names) r

-- the data of a text that was read, or the fault
abbrev pub value_result : Result JsonValue ScriptFault → Result Data ScriptFault
value_result r = result_map view r

-- a step that was read, with the names after it, or the fault
abbrev pub named_result : Result Step ScriptFault → List NameLists → Result Named ScriptFault
named_result r names = result_map (λ step. with_names names (action_of step)) r

-- steps that were read, or the fault
abbrev pub steps_result : Result (Vec Step Global) ScriptFault → Result (List Action) ScriptFault
steps_result r = result_map (λ steps. actions_of steps.items) r

-- a script that was read, or the fault
abbrev pub script_result : Result Script ScriptFault → Result Checked ScriptFault
script_result r = result_map (λ script. record { flows = heads_of script.flows.items; steps = actions_of script.steps.items }) r
