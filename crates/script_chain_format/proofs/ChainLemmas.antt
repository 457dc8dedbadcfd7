-- Chains of the reader, and those of the definitions that they stand for.
use Rattle.std.proofs.Common.{◌≡◌, ◌≢◌, ℕ, zero, suc, ◌+◌, ◌-◌, ◌<◌, ◌≤◌, nat_lt, if◌then◌else◌, arith, Result, Ok, Err, List, [], ◌∷◌, ◌++◌, length, drop, get_or, Bool, true, false, Option, Some, None, refl, sym, ap, ◌∙◌, append_assoc, append-nil}
use Rattle.std.specs.Prelude.{option_map, option_and_then, is_some}
use Rattle.std.specs.Option.{option_map_or}
use Rattle.std.proofs.lemmas.Bool.Decides.{nat_tests}
use Rattle.std.proofs.Math.ListN.{drop_of_length-le}
use Rattle.serde_json.specs.Data.{Data, Items, no_items, item}
use Rattle.serde_json.specs.View.{view, items_view}
use Rattle.serde_json.specs.declared.value.Value.{Value}
use Rattle.flow_law.specs.declared.chain.ChainFault.{ChainFault}
use Rattle.flow_cold.specs.declared.script_chain.op.Joining.{Joining}
use Rattle.script_chain_format.specs.declared.reading.fault.ScriptFault.{ScriptFault}
use Rattle.script_chain_format.specs.declared.reading.fault.ScriptFault.TheVariants.{BadShape, TooLarge}
use Rattle.script_chain_format.specs.declared.reading.version.Version.{Version}
use Rattle.script_chain_format.specs.Results.{comes_first, result_then, or_fault}
use Rattle.script_chain_format.proofs.ListLemmas.{rest_from}
use Rattle.script_chain_format.proofs.ResultLemmas.{stays-first}
use Rattle.script_chain_format.specs.SourceFormat.{each_of, bounds_of, source_in, within}
use Rattle.script_chain_format.specs.ChainFormat.{Build, Operator, operator_in, operator_where, zip_parts, zipped, plain_operator, parts_of, start_of, ops_on, operator_at, chain_at, joined_to}

pub bounds-none : (vs : List Value) → length vs ≢ 2 → None ≡ bounds_of (items_view vs)
bounds-none [] other = refl
bounds-none (a ∷ []) other = refl
bounds-none (a ∷ b ∷ []) other = absurd (other refl)
bounds-none (a ∷ b ∷ c ∷ vs) other = refl

joined : {X : Type 0} (done : List X) (x : X) (o : Option (List X))
    → option_map (λ rest. (done ++ x ∷ []) ++ rest) o ≡ option_map (λ rest. done ++ rest) (option_map (λ rest. x ∷ rest) o)
joined done x (Some rest) = ap Some (append_assoc done (x ∷ []) rest)
joined done x None = refl

-- if a value gives something, the values after it give what the whole still lacks
pub all-more : {X : Type 0} (f : Data → Option X) (vs : List Value) (i : ℕ) (v : Value) (x : X) (done more : List X) (whole : Option (List X))
    → i < length vs → v ≡ get_or vs i v → f (view v) ≡ Some x → more ≡ done ++ x ∷ []
    → option_map (λ rest. done ++ rest) (each_of f (items_view (drop i vs))) ≡ whole
    → option_map (λ rest. more ++ rest) (each_of f (items_view (drop (i + 1) vs))) ≡ whole
all-more f vs i v x done more whole here is gives pushed before =
    ap (λ l. option_map (λ rest. l ++ rest) (each_of f (items_view (drop (i + 1) vs)))) pushed
    ∙ joined done x (each_of f (items_view (drop (i + 1) vs)))
    ∙ ap (λ o. option_map (λ rest. done ++ rest) (option_and_then (λ y. option_map (λ ys. y ∷ ys) (each_of f (items_view (drop (i + 1) vs)))) o)) (sym gives)
    ∙ ap (λ l. option_map (λ rest. done ++ rest) (each_of f (items_view l))) (sym (rest_from vs i v here is))
    ∙ before

-- if a value gives nothing, neither does the whole
pub all-none : {X : Type 0} (f : Data → Option X) (vs : List Value) (i : ℕ) (v : Value) (done : List X) (whole : Option (List X))
    → i < length vs → v ≡ get_or vs i v → f (view v) ≡ None
    → option_map (λ rest. done ++ rest) (each_of f (items_view (drop i vs))) ≡ whole → whole ≡ None
all-none f vs i v done whole here is gives before =
    sym before
    ∙ ap (λ l. option_map (λ rest. done ++ rest) (each_of f (items_view l))) (rest_from vs i v here is)
    ∙ ap (λ o. option_map (λ rest. done ++ rest) (option_and_then (λ y. option_map (λ ys. y ∷ ys) (each_of f (items_view (drop (i + 1) vs)))) o)) gives

-- if no value is left, what was found is the whole
pub all-over : {X : Type 0} (f : Data → Option X) (vs : List Value) (i : ℕ) (done : List X) (whole : Option (List X))
    → length vs ≤ i → option_map (λ rest. done ++ rest) (each_of f (items_view (drop i vs))) ≡ whole → whole ≡ Some done
all-over f vs i done whole over before =
    sym before ∙ ap (λ l. option_map (λ rest. done ++ rest) (each_of f (items_view l))) (drop_of_length-le vs {i = i} over) ∙ ap Some (append-nil done)

-- ---- operators on a chain

pub operator-zip : (f : Data → Result Build ScriptFault) (version : Version) (at : ℕ) (d with : Data) (by : Joining) → Some (by, with) ≡ zip_parts version d → operator_where f version at d ≡ zipped by (f with)
operator-zip f version at d with by is = ap (λ o. option_map_or (λ zip. zipped zip.0 (f zip.1)) o (plain_operator (operator_in version at d))) (sym is)

pub operator-plain : (f : Data → Result Build ScriptFault) (version : Version) (at : ℕ) (d : Data) → None ≡ zip_parts version d → operator_where f version at d ≡ plain_operator (operator_in version at d)
operator-plain f version at d is = ap (λ o. option_map_or (λ zip. zipped zip.0 (f zip.1)) o (plain_operator (operator_in version at d))) (sym is)

pub chain-parts : (version : Version) (levels at : ℕ) (d from : Data) (ops : Items) → (levels ≡ 0 → ⊥) → Some (from, ops) ≡ parts_of d
    → ops_on (operator_at version (levels - 1) at) (start_of (source_in at from)) ops ≡ chain_at version levels at d
chain-parts version zero at d from ops some is = absurd (some refl)
chain-parts version (suc n) at d from ops some is =
    let less : suc n - 1 ≡ n = omega arith in
    ap (λ k. ops_on (operator_at version k at) (start_of (source_in at from)) ops) less
    ∙ ap (λ o. result_then (λ parts. ops_on (operator_where (chain_at version n at) version at) (start_of (source_in at parts.0)) parts.1) (or_fault (BadShape at) o)) is

pub no-levels : (version : Version) (levels at : ℕ) (d : Data) → levels ≡ 0 → chain_at version levels at d ≡ Err (BadShape at)
no-levels version levels at d is = ap (λ n. chain_at version n at d) is

pub ops-more : (f : Data → Result (Result Operator ChainFault) ScriptFault) (vs : List Value) (i : ℕ) (v : Value) (m whole : Result Build ScriptFault)
    → i < length vs → v ≡ get_or vs i v → ops_on f m (items_view (drop i vs)) ≡ whole → ops_on f (joined_to m (f (view v))) (items_view (drop (i + 1) vs)) ≡ whole
ops-more f vs i v m whole here is before = ap (λ l. ops_on f m (items_view l)) (sym (rest_from vs i v here is)) ∙ before

pub ops-over : (f : Data → Result (Result Operator ChainFault) ScriptFault) (vs : List Value) (i : ℕ) (m whole : Result Build ScriptFault)
    → length vs ≤ i → ops_on f m (items_view (drop i vs)) ≡ whole → m ≡ whole
ops-over f vs i m whole over before = ap (λ l. ops_on f m (items_view l)) (sym (drop_of_length-le vs {i = i} over)) ∙ before

-- a fault that takes precedence stays, whatever operators follow
pub ops-final : (f : Data → Result (Result Operator ChainFault) ScriptFault) (fault : ScriptFault) (ds : Items) → comes_first fault ≡ true → ops_on f (Err fault) ds ≡ Err fault
ops-final f fault no_items first = refl
ops-final f fault (item d ds) first = ap (λ r. ops_on f (Err r) ds) (stays-first fault (f d) first) ∙ ops-final f fault ds first

-- ---- whether each value gives something

some-more : {X : Type 0} (x : X) (o : Option (List X)) → is_some (option_map (λ xs. x ∷ xs) o) ≡ is_some o
some-more x (Some xs) = refl
some-more x None = refl

pub each-more : {X : Type 0} (f : Data → Option X) (vs : List Value) (i : ℕ) (v : Value) (whole : Bool) → i < length vs → v ≡ get_or vs i v → is_some (f (view v)) ≡ true
    → is_some (each_of f (items_view (drop i vs))) ≡ whole → is_some (each_of f (items_view (drop (i + 1) vs))) ≡ whole
each-more f vs i v whole here is some before =
    step (f (view v)) (each_of f (items_view (drop (i + 1) vs))) some ∙ ap (λ l. is_some (each_of f (items_view l))) (sym (rest_from vs i v here is)) ∙ before
  where
    step : {X : Type 0} (o : Option X) (rest : Option (List X)) → is_some o ≡ true → is_some rest ≡ is_some (option_and_then (λ x. option_map (λ xs. x ∷ xs) rest) o)
    step (Some x) rest is = sym (some-more x rest)
    step None rest is = cc

pub each-none : {X : Type 0} (f : Data → Option X) (vs : List Value) (i : ℕ) (v : Value) (whole : Bool) → i < length vs → v ≡ get_or vs i v → is_some (f (view v)) ≡ false
    → is_some (each_of f (items_view (drop i vs))) ≡ whole → whole ≡ false
each-none f vs i v whole here is none before =
    sym before ∙ ap (λ l. is_some (each_of f (items_view l))) (rest_from vs i v here is) ∙ step (f (view v)) (each_of f (items_view (drop (i + 1) vs))) none
  where
    step : {X : Type 0} (o : Option X) (rest : Option (List X)) → is_some o ≡ false → is_some (option_and_then (λ x. option_map (λ xs. x ∷ xs) rest) o) ≡ false
    step (Some x) rest is = cc
    step None rest is = refl

one-longer : {X : Type 0} (o : Option X) (rest : Option (List X)) (n : ℕ) (xs : List X) → ((ys : List X) → rest ≡ Some ys → length ys ≡ n)
    → option_and_then (λ x. option_map (λ ys. x ∷ ys) rest) o ≡ Some xs → length xs ≡ suc n
one-longer (Some x) (Some ys) n xs each is =
    let same : x ∷ ys ≡ xs = cc in
    ap length (sym same) ∙ ap suc (each ys refl)
one-longer (Some x) None n xs each is = cc
one-longer None rest n xs each is = cc

-- as many results as values
pub all-length : {X : Type 0} (f : Data → Option X) (vs : List Value) (xs : List X) → each_of f (items_view vs) ≡ Some xs → length xs ≡ length vs
all-length f [] xs is =
    let same : [] ≡ xs = cc in
    ap length (sym same)
all-length f (v ∷ vs) xs is = one-longer (f (view v)) (each_of f (items_view vs)) (length vs) xs (λ ys. all-length f vs ys) is

-- ---- limits on the number of values

abbrev pub no_more : {X : Type 0} → ℕ → ℕ → Option (List X) → Result (List X) ScriptFault
no_more at most o = result_then (λ xs. within at most (length xs) xs) (or_fault (BadShape at) o)

few : {X : Type 0} (at most n : ℕ) (o : Option (List X)) → ((xs : List X) → o ≡ Some xs → length xs ≡ n) → n ≤ most → no_more at most o ≡ or_fault (BadShape at) o
few at most n None each few_enough = refl
few at most n (Some xs) each few_enough = ap (λ t. if t then Err (TooLarge at) else Ok xs) (not_below (length xs) (each xs refl))
  where
    not_below : (k : ℕ) → k ≡ n → nat_lt most k ≡ false
    not_below k is = grind (arith, nat_tests)

many : {X : Type 0} (at most n : ℕ) (o : Option (List X)) → ((xs : List X) → o ≡ Some xs → length xs ≡ n) → most < n → is_some o ≡ true → no_more at most o ≡ Err (TooLarge at)
many at most n None each more some = cc
many at most n (Some xs) each more some = ap (λ t. if t then Err (TooLarge at) else Ok xs) (below (length xs) (each xs refl))
  where
    below : (k : ℕ) → k ≡ n → nat_lt most k ≡ true
    below k is = grind (arith, nat_tests)

pub few-enough : {X : Type 0} (f : Data → Option X) (at most : ℕ) (vs : List Value) → length vs ≤ most → no_more at most (each_of f (items_view vs)) ≡ or_fault (BadShape at) (each_of f (items_view vs))
few-enough f at most vs few_values = few at most (length vs) (each_of f (items_view vs)) (λ xs. all-length f vs xs) few_values

pub too-many : {X : Type 0} (f : Data → Option X) (at most : ℕ) (vs : List Value) → most < length vs → is_some (each_of f (items_view vs)) ≡ true → no_more at most (each_of f (items_view vs)) ≡ Err (TooLarge at)
too-many f at most vs more some = many at most (length vs) (each_of f (items_view vs)) (λ xs. all-length f vs xs) more some

pub misshapen : {X : Type 0} (at most : ℕ) (o : Option (List X)) → is_some o ≡ false → no_more at most o ≡ Err (BadShape at)
misshapen at most None none = refl
misshapen at most (Some xs) none = cc
