-- What the reading functions find, in the terms of the definitions.
use Rattle.std.proofs.Common.{◌≡◌, ℕ, ◌+◌, ◌<◌, ◌≤◌, true, false, nat_lt, if◌then◌else◌, List, [], ◌∷◌, ◌++◌, length, drop, get_or, Result, Ok, Err, Option, Some, sym, ap, ◌∙◌, append_assoc, refl, arith}
use Rattle.std.specs.Prelude.{option_and_then, option_map, None}
use Rattle.serde_json.specs.Data.{Data}
use Rattle.serde_json.specs.View.{view, items_view}
use Rattle.serde_json.specs.declared.value.Value.{Value}
use Rattle.script_format.specs.Actions.{Action}
use Rattle.script_chain_format.specs.declared.reading.fault.ScriptFault.{ScriptFault}
use Rattle.script_chain_format.specs.declared.reading.fault.ScriptFault.TheVariants.{NotJson, TooLarge}
use Rattle.std.specs.Str.{is_utf8}
use Rattle.std.proofs.lemmas.Bool.Decides.{nat_tests}
use Rattle.serde_json.specs.Read.{read}
use Rattle.script_format.specs.Checks.{NameLists, nothing_named, checked, json_of, most_bytes, most_steps, read_script, script_of, step_of, steps_of}
use Rattle.script_chain_format.specs.Results.{or_fault, result_map, result_then}
use Rattle.script_format.specs.Heads.{NamedHead, SharedParts, with_key}
use Rattle.script_chain_format.specs.declared.reading.version.Version.{Version}
use Rattle.script_chain_format.proofs.ListLemmas.{items_len_is, rest_from}

joined : (done : List Action) (step : Action) (r : Result (List Action) ScriptFault)
    → result_map (λ rest. (done ++ step ∷ []) ++ rest) r ≡ result_map (λ rest. done ++ rest) (result_map (λ rest. step ∷ rest) r)
joined done step (Ok rest) = ap Ok (append_assoc done (step ∷ []) rest)
joined done step (Err fault) = refl

-- if a step is read, the steps after it give what the whole still lacks
pub steps_more : (version : Version) (flows : List NamedHead) (steps : List Value) (i : ℕ) (value : Value) (names later : List NameLists) (done more : List Action) (step : Action) (whole : Result (List Action) ScriptFault)
    → i < length steps → value ≡ get_or steps i value → step_of version flows (i + 1) names (view value) ≡ Ok (record { step = step; names = later }) → more ≡ done ++ step ∷ []
    → result_map (λ rest. done ++ rest) (steps_of version flows (i + 1) names (items_view (drop i steps))) ≡ whole
    → result_map (λ rest. more ++ rest) (steps_of version flows (i + 1 + 1) later (items_view (drop (i + 1) steps))) ≡ whole
steps_more version flows steps i value names later done more step whole here is read pushed before =
    ap (λ l. result_map (λ rest. l ++ rest) (steps_of version flows (i + 1 + 1) later (items_view (drop (i + 1) steps)))) pushed
    ∙ joined done step (steps_of version flows (i + 1 + 1) later (items_view (drop (i + 1) steps)))
    ∙ ap (λ r. result_map (λ rest. done ++ rest) (result_then (λ named. result_map (λ s. named.step ∷ s) (steps_of version flows (i + 1 + 1) named.names (items_view (drop (i + 1) steps)))) r)) (sym read)
    ∙ ap (λ l. result_map (λ rest. done ++ rest) (steps_of version flows (i + 1) names (items_view l))) (sym (rest_from steps i value here is))
    ∙ before

-- a step that is refused refuses all steps
pub steps_err : (version : Version) (flows : List NamedHead) (steps : List Value) (i : ℕ) (value : Value) (names : List NameLists) (done : List Action) (whole : Result (List Action) ScriptFault) (f : ScriptFault)
    → i < length steps → value ≡ get_or steps i value → step_of version flows (i + 1) names (view value) ≡ Err f
    → result_map (λ rest. done ++ rest) (steps_of version flows (i + 1) names (items_view (drop i steps))) ≡ whole → whole ≡ Err f
steps_err version flows steps i value names done whole f here is read before =
    sym before
    ∙ ap (λ l. result_map (λ rest. done ++ rest) (steps_of version flows (i + 1) names (items_view l))) (rest_from steps i value here is)
    ∙ ap (λ r. result_map (λ rest. done ++ rest) (result_then (λ named. result_map (λ s. named.step ∷ s) (steps_of version flows (i + 1 + 1) named.names (items_view (drop (i + 1) steps)))) r)) read

pub json_is : (bytes : List ℕ) → is_utf8 bytes ≡ true → json_of bytes ≡ or_fault NotJson (read bytes)
json_is bytes text = ap (λ t. if t then or_fault NotJson (read bytes) else Err NotJson) text

pub read_script_is : (bytes : List ℕ) (d : Result Data ScriptFault) → length bytes ≤ most_bytes → json_of bytes ≡ d → read_script bytes ≡ result_then script_of d
read_script_is bytes d short json =
    ap (λ t. if t then Err (TooLarge 0) else result_then script_of (json_of bytes)) (not_below (length bytes) short)
    ∙ ap (result_then script_of) json
  where
    not_below : (n : ℕ) → n ≤ most_bytes → nat_lt most_bytes n ≡ false
    not_below n le = grind (arith, nat_tests)

pub checked_is : (version : Version) (flows : List NamedHead) (vs : List Value) → length vs ≤ most_steps → checked version (flows, items_view vs) ≡ result_map (λ steps. record { flows = flows; steps = steps }) (steps_of version flows 1 (nothing_named flows) (items_view vs))
checked_is version flows vs short =
    ap (λ t. if t then Err (TooLarge 0) else result_map (λ steps. record { flows = flows; steps = steps }) (steps_of version flows 1 (nothing_named flows) (items_view vs)))
    (ap (λ n. nat_lt most_steps n) (items_len_is vs) ∙ not_below (length vs) short)
  where
    not_below : (n : ℕ) → n ≤ most_steps → nat_lt most_steps n ≡ false
    not_below n le = grind (arith, nat_tests)

pub too_long_is : (version : Version) (flows : List NamedHead) (vs : List Value) → most_steps < length vs → checked version (flows, items_view vs) ≡ Err (TooLarge 0)
too_long_is version flows vs long =
    ap (λ t. if t then Err (TooLarge 0) else result_map (λ steps. record { flows = flows; steps = steps }) (steps_of version flows 1 (nothing_named flows) (items_view vs)))
    (ap (λ n. nat_lt most_steps n) (items_len_is vs) ∙ below (length vs) long)
  where
    below : (n : ℕ) → most_steps < n → nat_lt most_steps n ≡ true
    below n lt = grind (arith, nat_tests)

-- ---- what is read key by key

-- if each of three keys has a value, the whole is what is made of the three
pub all-three : {A B C R : Type 0} (f : A → B → C → Option R) (oa : Option A) (ob : Option B) (oc : Option C) (a : A) (b : B) (c : C) → Some a ≡ oa → Some b ≡ ob → Some c ≡ oc
    → f a b c ≡ option_and_then (λ x. option_and_then (λ y. option_and_then (λ z. f x y z) oc) ob) oa
all-three f oa ob oc a b c ea eb ec =
    ap (λ o. option_and_then (λ z. f a b z) o) ec
    ∙ ap (λ o. option_and_then (λ y. option_and_then (λ z. f a y z) oc) o) eb
    ∙ ap (λ o. option_and_then (λ x. option_and_then (λ y. option_and_then (λ z. f x y z) oc) ob) o) ea

-- what is read of the parts of a shared chain and one more key: nothing if either is missing, and otherwise both
pub no-parts : {N : Type 0} (parts : Option SharedParts) (key : Option N) → None ≡ parts → None ≡ with_key parts key
no-parts parts key none = ap (λ o. with_key o key) none

pub no-key : {N : Type 0} (parts : Option SharedParts) (key : Option N) (shared : SharedParts) → Some shared ≡ parts → None ≡ key → None ≡ with_key parts key
no-key parts key shared some none = ap (option_map (λ n. (shared, n))) none ∙ ap (λ o. with_key o key) some

pub parts-and-key : {N : Type 0} (parts : Option SharedParts) (key : Option N) (shared : SharedParts) (n : N) → Some shared ≡ parts → Some n ≡ key → Some (shared, n) ≡ with_key parts key
parts-and-key parts key shared n some given = ap (option_map (λ n. (shared, n))) given ∙ ap (λ o. with_key o key) some
