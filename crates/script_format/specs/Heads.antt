-- What a script says of one flow.
-- Begin with `flow_in`. A bad form anywhere in a flow takes precedence over a limit of its chain. The flows of a script are in Flows.
use Rattle.std.specs.Prelude.{ℕ, if◌then◌else◌, ℤ, List, [], ◌∷◌, slice_get, Option, Some, None, option_map, option_and_then, Result, Err, codes}
use Rattle.std.specs.Option.{option_map_or}
use Rattle.std.specs.Str.{bytes_eq}
use Rattle.serde_json.specs.Data.{Data}
use Rattle.serde_json.specs.Find.{get, as_number, as_u64, as_str}
use Rattle.flow_law.specs.declared.config.Config.{Config}
use Rattle.flow_law.specs.sharing.Sharing.{never}
use Rattle.flow_law.specs.declared.sharing.Started.{Started}
use Rattle.flow_law.specs.declared.sharing.Started.TheVariants.{Eagerly, Lazily, WhileSubscribed}
use Rattle.script_chain_format.specs.declared.reading.fault.ScriptFault.{ScriptFault}
use Rattle.script_chain_format.specs.declared.reading.fault.ScriptFault.TheVariants.{BadShape}
use Rattle.script_chain_format.specs.declared.reading.version.Version.{Version}
use Rattle.script_chain_format.specs.declared.reading.version.Version.TheVariants.{One, Two}
use Rattle.script_format.specs.declared.verb.HeadKind.{HeadKind}
use Rattle.script_format.specs.declared.verb.HeadKind.TheVariants as kind
use Rattle.script_chain_format.specs.Results.{result_then, result_map, or_fault}
use Rattle.script_chain_format.specs.Members.{u64_at, u32_at, i64_at, text_at, has_only, where_true}
use Rattle.script_format.specs.Format.{limit_at, config_of}
use Rattle.script_chain_format.specs.ChainFormat.{Build, chain_in}

-- what a head says of a flow
pub data Head : Type 0 where
  shared_flow : Config → Head
  -- with the first value, and the most numbers that it issues
  state_flow : ℤ → ℕ → Head
  -- with the chain, when it runs, how many values are replayed, and the most numbers
  shared_chain : Build → Started → ℕ → ℕ → Head
  -- with the chain, when it runs, the first value, and the most numbers
  state_chain : Build → Started → ℤ → ℕ → Head

-- a flow, and its name if it has one
pub record NamedHead : Type 0 where
  pub name : Option (List ℕ)
  pub flow : Head

-- the kind of a flow
abbrev pub kind_of : Head → HeadKind
kind_of (shared_flow config) = kind.Shared
kind_of (state_flow initial limit) = kind.State
kind_of (shared_chain build started replay limit) = kind.Share
kind_of (state_chain build started initial limit) = kind.StateIn

-- the kind of the flow at a place, or `Absent` if there is none
abbrev pub kind_at : ℕ → List NamedHead → HeadKind
kind_at place flows = option_map_or (λ named. kind_of named.flow) (slice_get flows place) kind.Absent

-- a state flow: its first value, and the most numbers that it issues
abbrev pub state_of : Data → Option Head
state_of d = option_and_then (λ initial. option_and_then (λ limit. where_true (has_only (codes "kind" ∷ codes "initial" ∷ codes "limit" ∷ []) d) (Some (state_flow initial limit)))
    (limit_at d)) (i64_at (codes "initial") d)

-- when a shared chain runs, by a word
abbrev pub started_named : List ℕ → Option Started
started_named text = if bytes_eq text (codes "eagerly") then Some Eagerly else (if bytes_eq text (codes "lazily") then Some Lazily else None)

-- the keys of the object under `started`, for a chain that runs while its flow has subscribers; version 1 has no `expire`
abbrev pub started_keys : Version → List (List ℕ)
started_keys One = codes "stop" ∷ []
started_keys Two = codes "stop" ∷ codes "expire" ∷ []

-- how long after the stop the replay cache expires; without the key it never does
abbrev pub expire_at : Data → Option ℕ
expire_at d = option_map_or (λ expire. option_and_then as_u64 (as_number expire)) (get (codes "expire") d) (Some never)

-- when a chain runs, by an object: while its flow has subscribers, with the time until it then stops, and the time from that stop until the
-- replay cache expires
abbrev pub while_subscribed : Version → Data → Option Started
while_subscribed version d =
    where_true (has_only (started_keys version) d) (option_and_then (λ stop. option_map (λ expire. WhileSubscribed stop expire) (expire_at d)) (u64_at (codes "stop") d))

-- when a shared chain runs, by a word or by an object
abbrev pub started_of : Version → Data → Option Started
started_of version d = option_map_or started_named (as_str d) (while_subscribed version d)

-- when a shared chain runs, by the key `started`
abbrev pub started_at : Version → Data → Option Started
started_at version d = option_and_then (started_of version) (get (codes "started") d)

-- what a head says of a shared chain, whichever kind of flow it is shared into
pub record SharedParts : Type 0 where
  pub chain : Data
  pub started : Started
  pub limit : ℕ

-- what the keys of a shared chain say, if each has the right form and there are no other keys than these
abbrev pub shared_parts : Version → List (List ℕ) → Data → Option SharedParts
shared_parts version keys d =
    option_and_then (λ chain. option_and_then (λ started. option_and_then (λ limit.
    where_true (has_only keys d) (Some (record { chain = chain; started = started; limit = limit })))
    (limit_at d)) (started_at version d)) (get (codes "chain") d)

-- the parts of a shared chain, with the value of one more key
abbrev pub with_key : {N : Type 0} → Option SharedParts → Option N → Option (SharedParts × N)
with_key shared key = option_and_then (λ parts. option_map (λ n. (parts, n)) key) shared

-- a chain that is shared into a shared flow, with how many values are replayed
abbrev pub share_parts : Version → Data → Option (SharedParts × ℕ)
share_parts version d =
    with_key (shared_parts version (codes "kind" ∷ codes "chain" ∷ codes "started" ∷ codes "replay" ∷ codes "limit" ∷ []) d) (u32_at (codes "replay") d)

-- a chain that is shared into a shared flow
abbrev pub share_in : Version → Data → Result Head ScriptFault
share_in version d = result_then (λ parts. result_map (λ build. shared_chain build parts.0.started parts.1 parts.0.limit) (chain_in version 0 parts.0.chain)) (or_fault (BadShape 0) (share_parts version d))

-- a chain that is shared into a state flow, with the first value
abbrev pub state_in_parts : Version → Data → Option (SharedParts × ℤ)
state_in_parts version d =
    with_key (shared_parts version (codes "kind" ∷ codes "chain" ∷ codes "started" ∷ codes "initial" ∷ codes "limit" ∷ []) d) (i64_at (codes "initial") d)

-- a chain that is shared into a state flow
abbrev pub state_in : Version → Data → Result Head ScriptFault
state_in version d = result_then (λ parts. result_map (λ build. state_chain build parts.0.started parts.1 parts.0.limit) (chain_in version 0 parts.0.chain)) (or_fault (BadShape 0) (state_in_parts version d))

-- the flow with this kind
abbrev pub flow_named : Version → List ℕ → Data → Result Head ScriptFault
flow_named version kind d =
    if bytes_eq kind (codes "shared") then or_fault (BadShape 0) (option_map shared_flow (config_of d))
    else (if bytes_eq kind (codes "state") then or_fault (BadShape 0) (state_of d)
    else (if bytes_eq kind (codes "share") then share_in version d
    else (if bytes_eq kind (codes "state_in") then state_in version d else Err (BadShape 0))))

-- a flow of a script of this version
abbrev pub flow_in : Version → Data → Result Head ScriptFault
flow_in version d = result_then (λ kind. flow_named version kind d) (or_fault (BadShape 0) (text_at (codes "kind") d))

-- a script without a flow, which has no other key
abbrev pub no_flows : Data → Result (List NamedHead) ScriptFault
no_flows d = or_fault (BadShape 0) (where_true (has_only (codes "kind" ∷ []) d) (Some []))

-- a list of one flow without a name
abbrev pub only_flow : Head → List NamedHead
only_flow flow = record { name = None; flow = flow } ∷ []

-- the only flow of a script of version 1, or none, by its kind
abbrev pub only_named : List ℕ → Data → Result (List NamedHead) ScriptFault
only_named kind d = if bytes_eq kind (codes "none") then no_flows d else result_map only_flow (flow_named One kind d)

-- the only flow of a script of version 1, or none
abbrev pub only_in : Data → Result (List NamedHead) ScriptFault
only_in d = result_then (λ kind. only_named kind d) (or_fault (BadShape 0) (text_at (codes "kind") d))
