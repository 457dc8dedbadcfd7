-- What the head of a script says of its flows.
-- Begin with `head_in`. A bad form anywhere in the head takes precedence over the limits of the flows and over the limit of their number.
use Rattle.std.specs.Prelude.{ℕ, nat_lt, if◌then◌else◌, List, [], ◌∷◌, ◌++◌, Some, Option, option_and_then, Result, Ok, Err, codes}
use Rattle.serde_json.specs.Data.{Data, Items, Members, no_members, member, put}
use Rattle.serde_json.specs.Events.{members_len}
use Rattle.serde_json.specs.Find.{get, as_array, as_object}
use Rattle.script_chain_format.specs.declared.reading.fault.ScriptFault.{ScriptFault}
use Rattle.script_chain_format.specs.declared.reading.fault.ScriptFault.TheVariants.{BadShape, TooLarge}
use Rattle.script_chain_format.specs.declared.reading.version.Version.{Version}
use Rattle.script_chain_format.specs.declared.reading.version.Version.TheVariants.{One, Two}
use Rattle.script_chain_format.specs.Members.{has_only, where_true}
use Rattle.script_format.specs.NameForm.{is_name}
use Rattle.script_format.specs.Heads.{NamedHead, flow_in, only_in}
use Rattle.script_chain_format.specs.Results.{result_then, result_map, or_fault, first_fault}

-- the most flows of a script
abbrev pub most_flows : ℕ
most_flows = 64

-- the members in the byte order of their keys
abbrev pub in_key_order : Members → Members
in_key_order no_members = no_members
in_key_order (member key d ms) = put key d (in_key_order ms)

-- a flow and its name
abbrev pub named_flow : List ℕ → Data → Result NamedHead ScriptFault
named_flow name d = if is_name name then result_map (λ flow. record { name = Some name; flow = flow }) (flow_in Two d) else Err (BadShape 0)

-- the flows with one more; a bad form of any flow takes precedence over a limit of any
abbrev pub with_named_flow : Result (List NamedHead) ScriptFault → Result NamedHead ScriptFault → Result (List NamedHead) ScriptFault
with_named_flow (Ok flows) flow = result_map (λ f. flows ++ f ∷ []) flow
with_named_flow (Err fault) flow = Err (first_fault fault flow)

-- these flows, and then those of the members
abbrev pub flows_after : Result (List NamedHead) ScriptFault → Members → Result (List NamedHead) ScriptFault
flows_after flows no_members = flows
flows_after flows (member name d ms) = flows_after (with_named_flow flows (named_flow name d)) ms

-- no flows yet, or `TooLarge` if a script may not have this many
abbrev pub no_flows_of : ℕ → Result (List NamedHead) ScriptFault
no_flows_of count = if nat_lt most_flows count then Err (TooLarge 0) else Ok []

-- the flows of a script, in the byte order of their names
abbrev pub named_flows : Members → Result (List NamedHead) ScriptFault
named_flows ms = flows_after (no_flows_of (members_len ms)) (in_key_order ms)

-- the flows of a script: one without a name, or none, in version 1; each with its name in version 2
abbrev pub flows_in : Version → Data → Result (List NamedHead) ScriptFault
flows_in One d = result_then only_in (or_fault (BadShape 0) (get (codes "flow") d))
flows_in Two d = result_then named_flows (or_fault (BadShape 0) (option_and_then as_object (get (codes "flows") d)))

-- the keys of a script
abbrev pub head_keys : Version → List (List ℕ)
head_keys One = codes "version" ∷ codes "flow" ∷ codes "steps" ∷ []
head_keys Two = codes "version" ∷ codes "flows" ∷ codes "steps" ∷ []

-- the steps of an object that has no keys except those of a script
abbrev pub steps_in : Version → Data → Option Items
steps_in version d = where_true (has_only (head_keys version) d) (option_and_then as_array (get (codes "steps") d))

-- the flows of a script, and the values of its steps
abbrev pub head_in : Version → Data → Result (List NamedHead × Items) ScriptFault
head_in version d = result_then (λ steps. result_map (λ flows. (flows, steps)) (flows_in version d)) (or_fault (BadShape 0) (steps_in version d))
