-- What the JSON text of a script says: the configuration of a flow, and the keys of each step.
-- Begin with `config_of` and `verb_of`. Members are in Members of script_chain_format, the head is in Heads. Why a script is refused, and
-- in which order it is checked, is in Checks.
use Rattle.std.specs.Prelude.{ℕ, ◌^◌, ◌-◌, ◌||◌, Bool, true, false, if◌then◌else◌, List, [], ◌∷◌, Option, Some, None, option_and_then, is_some, codes}
use Rattle.std.specs.Option.{option_map_or}
use Rattle.std.specs.Str.{bytes_eq}
use Rattle.serde_json.specs.Data.{Data}
use Rattle.serde_json.specs.Find.{get, as_number, as_u64}
use Rattle.flow_law.specs.declared.config.Config.{Config}
use Rattle.flow_law.specs.declared.config.Overflow.{Overflow}
use Rattle.flow_law.specs.declared.config.Overflow.TheVariants.{Suspend, DropOldest, DropLatest}
use Rattle.script_format.specs.declared.verb.Verb.{Verb}
use Rattle.script_format.specs.declared.verb.Verb.TheVariants.{Flow, Collect}
use Rattle.script_format.specs.declared.verb.FlowVerb.{FlowVerb}
use Rattle.script_format.specs.declared.verb.FlowVerb.TheVariants.{TryEmit, Emit, Poll, Cancel, Subscribe, SubscribeWith, Next, Unsubscribe, Cache, Count, Reset, Value, Set, CompareAndSet, Turn}
use Rattle.script_chain_format.specs.Members.{u32_at, text_at, has_only, where_true}
use Rattle.script_chain_format.specs.declared.reading.version.Version.{Version}
use Rattle.script_chain_format.specs.declared.reading.version.Version.TheVariants.{One, Two}
use Rattle.script_format.specs.declared.verb.HeadKind.{HeadKind}
use Rattle.script_format.specs.declared.verb.HeadKind.TheVariants as kind

-- ---- the configuration of a flow

-- the overflow policy that a word names
abbrev pub overflow_named : List ℕ → Option Overflow
overflow_named text =
    if bytes_eq text (codes "suspend") then Some Suspend
    else (if bytes_eq text (codes "drop_oldest") then Some DropOldest
    else (if bytes_eq text (codes "drop_latest") then Some DropLatest else None))

-- the limit of a flow; without the key, the greatest one
abbrev pub limit_at : Data → Option ℕ
limit_at d = option_map_or (λ l. option_and_then as_u64 (as_number l)) (get (codes "limit") d) (Some (2 ^ 64 - 1))

-- the configuration of a shared flow, if each key has the right form and there is no other
abbrev pub config_of : Data → Option Config
config_of d =
    option_and_then (λ replay. option_and_then (λ extra. option_and_then (λ overflow. option_and_then (λ limit.
    where_true (has_only (codes "kind" ∷ codes "replay" ∷ codes "extra" ∷ codes "overflow" ∷ codes "limit" ∷ []) d)
    (Some (record { replay = replay; extra = extra; overflow = overflow; limit = limit })))
    (limit_at d)) (option_and_then overflow_named (text_at (codes "overflow") d))) (u32_at (codes "extra") d)) (u32_at (codes "replay") d)

-- ---- steps

-- whether there is a flow
abbrev pub is_flow : HeadKind → Bool
is_flow kind.Absent = false
is_flow _ = true

-- whether the flow is a shared flow
abbrev pub is_shared : HeadKind → Bool
is_shared kind.Shared = true
is_shared _ = false

-- whether the flow is a state flow
abbrev pub is_state : HeadKind → Bool
is_state kind.State = true
is_state _ = false

-- whether scripts emit into the flow
abbrev pub is_mutable : HeadKind → Bool
is_mutable kind = is_shared kind || is_state kind

-- whether the flow has one current value
abbrev pub has_value : HeadKind → Bool
has_value kind.State = true
has_value kind.StateIn = true
has_value _ = false

-- whether a chain is shared into the flow
abbrev pub is_sharing : HeadKind → Bool
is_sharing kind.Share = true
is_sharing kind.StateIn = true
is_sharing _ = false

-- whether a flow of this kind allows a step with this verb
abbrev pub allows : FlowVerb → HeadKind → Bool
allows TryEmit kind = is_mutable kind
allows Emit kind = is_shared kind
allows Poll kind = is_shared kind
allows Cancel kind = is_shared kind
allows Subscribe kind = is_flow kind
allows SubscribeWith kind = is_shared kind
allows Next kind = is_flow kind
allows Unsubscribe kind = is_flow kind
allows Cache kind = is_flow kind
allows Count kind = is_flow kind
allows Reset kind = is_mutable kind
allows Value kind = has_value kind
allows Set kind = is_state kind
allows CompareAndSet kind = is_state kind
allows Turn kind = is_sharing kind

-- the subscription with or without first values of its own
abbrev pub subscription : Bool → FlowVerb
subscription has_first = if has_first then SubscribeWith else Subscribe

-- the verb that a text names, among those on the values of a flow
abbrev pub value_verb_named : List ℕ → Option Verb
value_verb_named text =
    if bytes_eq text (codes "cache") then Some (Flow Cache)
    else (if bytes_eq text (codes "reset") then Some (Flow Reset)
    else (if bytes_eq text (codes "value") then Some (Flow Value)
    else (if bytes_eq text (codes "set") then Some (Flow Set)
    else (if bytes_eq text (codes "compare_and_set") then Some (Flow CompareAndSet) else None))))

-- the verb that a text names, among those on the subscribers or the values of a flow
abbrev pub subscriber_verb_named : List ℕ → Bool → Option Verb
subscriber_verb_named text has_first =
    if bytes_eq text (codes "subscribe") then Some (Flow (subscription has_first))
    else (if bytes_eq text (codes "next") then Some (Flow Next)
    else (if bytes_eq text (codes "unsubscribe") then Some (Flow Unsubscribe)
    else (if bytes_eq text (codes "count") then Some (Flow Count) else value_verb_named text)))

-- the verb for the text of the key `do`, and for whether the step has first values
abbrev pub verb_named : List ℕ → Bool → Option Verb
verb_named text has_first =
    if bytes_eq text (codes "collect") then Some Collect
    else (if bytes_eq text (codes "turn") then Some (Flow Turn)
    else (if bytes_eq text (codes "try_emit") then Some (Flow TryEmit)
    else (if bytes_eq text (codes "emit") then Some (Flow Emit)
    else (if bytes_eq text (codes "poll") then Some (Flow Poll)
    else (if bytes_eq text (codes "cancel") then Some (Flow Cancel) else subscriber_verb_named text has_first)))))

-- whether a step has first values for its subscriber; version 1 has none
abbrev pub has_first : Version → Data → Bool
has_first One d = false
has_first Two d = is_some (get (codes "first") d)

-- the keys of a step, except the one that names its flow
abbrev pub keys_of : FlowVerb → List (List ℕ)
keys_of TryEmit = codes "do" ∷ codes "value" ∷ []
keys_of Emit = codes "do" ∷ codes "name" ∷ codes "value" ∷ []
keys_of Poll = codes "do" ∷ codes "name" ∷ []
keys_of Cancel = codes "do" ∷ codes "name" ∷ []
keys_of Subscribe = codes "do" ∷ codes "name" ∷ []
keys_of SubscribeWith = codes "do" ∷ codes "name" ∷ codes "first" ∷ []
keys_of Next = codes "do" ∷ codes "name" ∷ []
keys_of Unsubscribe = codes "do" ∷ codes "name" ∷ []
keys_of Cache = codes "do" ∷ []
keys_of Count = codes "do" ∷ []
keys_of Reset = codes "do" ∷ []
keys_of Value = codes "do" ∷ []
keys_of Set = codes "do" ∷ codes "value" ∷ []
keys_of CompareAndSet = codes "do" ∷ codes "expect" ∷ codes "update" ∷ []
keys_of Turn = codes "do" ∷ codes "at" ∷ []

-- the keys of a step; only in version 2 does a step name its flow
abbrev pub keys_in : Version → Verb → List (List ℕ)
keys_in One (Flow verb) = keys_of verb
keys_in Two (Flow verb) = codes "flow" ∷ keys_of verb
keys_in version Collect = codes "do" ∷ codes "chain" ∷ []

-- the verb of a step, if the step has no keys except those of the verb
abbrev pub verb_of : Version → Data → Option Verb
verb_of version d =
    option_and_then (λ verb. where_true (has_only (keys_in version verb) d) (Some verb))
    (option_and_then (λ text. verb_named text (has_first version d)) (text_at (codes "do") d))
