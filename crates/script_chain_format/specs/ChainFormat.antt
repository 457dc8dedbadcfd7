-- What the JSON text of a chain says, and what the chain gives.
-- Begin with `chain_in`. A chain of the right form within its limits may still be refused when it is built. That does not refuse the
-- script: the collection or the sharing of the chain reports it.
use Rattle.std.specs.Prelude.{ℕ, zero, suc, ◌+◌, Bool, false, ◌==◌, nat_lt, max, if◌then◌else◌, ℤ, List, [], ◌∷◌, Option, Some, None, option_map, option_and_then, Result, Ok, Err, codes}
use Rattle.std.specs.Option.{option_map_or}
use Rattle.std.specs.Ordering.{int_eq}
use Rattle.std.specs.Str.{bytes_eq}
use Rattle.serde_json.specs.Data.{Data, Items, no_items, item}
use Rattle.serde_json.specs.Find.{get, as_array}
use Rattle.flow_law.specs.declared.chain.ChainFault.{ChainFault}
use Rattle.flow_law.specs.declared.chain.ChainFault.TheVariants.{NotPositive, TooDeep}
use Rattle.flow_law.specs.chain.ChainRun.{ChainRun, gives}
use Rattle.flow_law.specs.chain.OperatorRuns.{map_run, filter_run, take_while_run, transform_run, take_run, drop_run, drop_while_run, scan_run, running_reduce_run, flat_map_run, zip_run, distinct_run}
use Rattle.flow_cold.specs.declared.script_chain.op.Arithmetic.{Arithmetic}
use Rattle.flow_cold.specs.declared.script_chain.op.Arithmetic.TheVariants as arithmetic
use Rattle.flow_cold.specs.declared.script_chain.op.Joining.{Joining}
use Rattle.flow_cold.specs.declared.script_chain.op.Joining.TheVariants as joining
use Rattle.flow_cold.specs.declared.script_chain.op.Spread.{Spread}
use Rattle.flow_cold.specs.declared.script_chain.op.Spread.TheVariants as spread
use Rattle.flow_cold.specs.declared.script_chain.op.Test.{Test}
use Rattle.flow_cold.specs.declared.script_chain.op.Test.TheVariants as test
use Rattle.flow_cold.specs.Numbers.{computed, joined, passes, sums, spread_run}
use Rattle.script_chain_format.specs.declared.reading.fault.ScriptFault.{ScriptFault}
use Rattle.script_chain_format.specs.declared.reading.fault.ScriptFault.TheVariants.{BadShape}
use Rattle.script_chain_format.specs.declared.chain_words.OpName.{OpName}
use Rattle.script_chain_format.specs.declared.chain_words.OpName.TheVariants.{Map, Filter, TakeWhile, Transform, Take, DropFirst, DropWhile, Scan, RunningReduce, FlatMap, Zip, Distinct}
use Rattle.script_chain_format.specs.declared.reading.version.Version.{Version}
use Rattle.script_chain_format.specs.declared.reading.version.Version.TheVariants.{One, Two}
use Rattle.script_chain_format.specs.Members.{u64_at, i64_at, text_at, has_only, where_true}
use Rattle.script_chain_format.specs.Results.{result_then, result_map, or_fault, first_fault}
use Rattle.script_chain_format.specs.SourceFormat.{within, numbers_in, source_in}

-- ---- limits

-- the most numbers that a `transform` adds to an item
abbrev pub most_added : ℕ
most_added = 16

-- the most items that a `flat_map` makes of one item
abbrev pub most_spread : ℕ
most_spread = 1000

-- ---- words

-- the operator that a text names, among those that only version 2 has
abbrev pub later_op_named : Version → List ℕ → Option OpName
later_op_named One text = None
later_op_named Two text = if bytes_eq text (codes "drop_while") then Some DropWhile else (if bytes_eq text (codes "running_reduce") then Some RunningReduce else None)

-- the operator that a text names, among those whose results also depend on earlier items or on another chain
abbrev pub run_op_named : Version → List ℕ → Option OpName
run_op_named version text =
    if bytes_eq text (codes "take_while") then Some TakeWhile
    else (if bytes_eq text (codes "take") then Some Take
    else (if bytes_eq text (codes "drop") then Some DropFirst
    else (if bytes_eq text (codes "scan") then Some Scan
    else (if bytes_eq text (codes "zip") then Some Zip
    else (if bytes_eq text (codes "distinct") then Some Distinct else later_op_named version text)))))

-- the operator that a text names, in a version of the format
abbrev pub op_named : Version → List ℕ → Option OpName
op_named version text =
    if bytes_eq text (codes "map") then Some Map
    else (if bytes_eq text (codes "filter") then Some Filter
    else (if bytes_eq text (codes "transform") then Some Transform
    else (if bytes_eq text (codes "flat_map") then Some FlatMap else run_op_named version text)))

-- the operator that the key `op` names
abbrev pub op_name_of : Version → Data → Option OpName
op_name_of version d = option_and_then (op_named version) (text_at (codes "op") d)

-- the arithmetic that a word names
abbrev pub arithmetic_named : List ℕ → Option Arithmetic
arithmetic_named text = if bytes_eq text (codes "add") then Some arithmetic.Add else (if bytes_eq text (codes "mul") then Some arithmetic.Mul else None)

-- how a `map`, a `scan` or a `running_reduce` computes
abbrev pub arithmetic_at : Data → Option Arithmetic
arithmetic_at d = option_and_then arithmetic_named (text_at (codes "by") d)

-- the way to join two items that a word names
abbrev pub joining_named : List ℕ → Option Joining
joining_named text =
    if bytes_eq text (codes "add") then Some joining.Add
    else (if bytes_eq text (codes "mul") then Some joining.Mul
    else (if bytes_eq text (codes "left") then Some joining.Left
    else (if bytes_eq text (codes "right") then Some joining.Right else None)))

-- how a `zip` joins
abbrev pub joining_at : Data → Option Joining
joining_at d = option_and_then joining_named (text_at (codes "by") d)

-- what a `flat_map` makes of an item, by its word
abbrev pub spread_named : List ℕ → Option Spread
spread_named text = if bytes_eq text (codes "range") then Some spread.Range else (if bytes_eq text (codes "repeat") then Some spread.Repeat else None)

-- what a `flat_map` makes of an item, by its key `to`
abbrev pub spread_at : Data → Option Spread
spread_at d = option_and_then spread_named (text_at (codes "to") d)

-- the number that a test compares with, if the operator has no keys except `op`, `by` and `k`
abbrev pub compared_with : Data → Option ℤ
compared_with d = where_true (has_only (codes "op" ∷ codes "by" ∷ codes "k" ∷ []) d) (i64_at (codes "k") d)

-- the test that a word names: `even` and `odd` take no number, the others take one
abbrev pub test_named : List ℕ → Data → Option Test
test_named text d =
    if bytes_eq text (codes "even") then where_true (has_only (codes "op" ∷ codes "by" ∷ []) d) (Some test.Even)
    else (if bytes_eq text (codes "odd") then where_true (has_only (codes "op" ∷ codes "by" ∷ []) d) (Some test.Odd)
    else (if bytes_eq text (codes "lt") then option_map test.Less (compared_with d)
    else (if bytes_eq text (codes "gt") then option_map test.Greater (compared_with d)
    else (if bytes_eq text (codes "ne") then option_map test.NotEqual (compared_with d) else None))))

-- the test of a `filter`, a `take_while` or a `drop_while`
abbrev pub test_of : Data → Option Test
test_of d = option_and_then (λ text. test_named text d) (text_at (codes "by") d)

-- ---- operators

-- a chain that was built: how deep it is, and what it gives
pub record BuiltChain : Type 0 where
  pub depth : ℕ
  pub run : ChainRun ℤ

-- an operator: what it does to the run of a chain, and how deep the chain is with it
pub record Operator : Type 0 where
  -- whether it is a `take` of no items
  pub takes_none : Bool
  -- how deep a chain is with it
  pub depth : ℕ → ℕ
  pub run : ChainRun ℤ → ChainRun ℤ

-- an operator that is always built, and makes the chain one deeper
abbrev pub one_deeper : (ChainRun ℤ → ChainRun ℤ) → Operator
one_deeper run = record { takes_none = false; depth = λ depth. depth + 1; run = run }

-- a `take` of this many items
abbrev pub take_operator : ℕ → Operator
take_operator count = record { takes_none = count == 0; depth = λ depth. depth + 1; run = take_run count }

-- a `zip` with a chain that was built; it is one deeper than the deeper of the two chains
abbrev pub zip_operator : Joining → BuiltChain → Operator
zip_operator by with = record { takes_none = false; depth = λ depth. max depth with.depth + 1; run = λ r. zip_run (joined by) r with.run }

-- an operator's arithmetic, and the number under its only other key
abbrev pub computing_with : List ℕ → Data → Option (Arithmetic × ℤ)
computing_with key d = where_true (has_only (codes "op" ∷ codes "by" ∷ key ∷ []) d) (option_and_then (λ by. option_map (λ number. (by, number)) (i64_at key d)) (arithmetic_at d))

-- a `map`: what it computes, and with which number
abbrev pub map_of : Data → Option Operator
map_of d = option_map (λ c. one_deeper (map_run (λ x. computed c.0 (x, c.1)))) (computing_with (codes "k") d)

-- a `filter` by its test
abbrev pub filter_of : Data → Option Operator
filter_of d = option_map (λ test. one_deeper (filter_run (passes test))) (test_of d)

-- a `take_while` by its test
abbrev pub take_while_of : Data → Option Operator
take_while_of d = option_map (λ test. one_deeper (take_while_run (passes test))) (test_of d)

-- a `drop_while` by its test
abbrev pub drop_while_of : Data → Option Operator
drop_while_of d = option_map (λ test. one_deeper (drop_while_run (passes test))) (test_of d)

-- a `take` of the first n items
abbrev pub take_of : Data → Option Operator
take_of d = where_true (has_only (codes "op" ∷ codes "n" ∷ []) d) (option_map take_operator (u64_at (codes "n") d))

-- a `drop` of the first n items
abbrev pub drop_of : Data → Option Operator
drop_of d = where_true (has_only (codes "op" ∷ codes "n" ∷ []) d) (option_map (λ n. one_deeper (λ r. drop_run r n)) (u64_at (codes "n") d))

-- a `scan`, which gives its first value before any item
abbrev pub scan_of : Data → Option Operator
scan_of d = option_map (λ c. one_deeper (λ r. gives c.1 (scan_run (computed c.0) c.1 r))) (computing_with (codes "from") d)

-- a `running_reduce`, which gives its first item unchanged
abbrev pub running_reduce_of : Data → Option Operator
running_reduce_of d = where_true (has_only (codes "op" ∷ codes "by" ∷ []) d) (option_map (λ by. one_deeper (running_reduce_run (computed by) None)) (arithmetic_at d))

-- a `distinct`, which has no other key
abbrev pub distinct_of : Data → Option Operator
distinct_of d = where_true (has_only (codes "op" ∷ []) d) (Some (one_deeper (distinct_run int_eq None)))

-- a `transform`, which gives the sums of an item and each of its numbers
abbrev pub transform_in : ℕ → Data → Result Operator ScriptFault
transform_in at d = result_map (λ entries. one_deeper (transform_run (sums entries)))
    (result_then (numbers_in at most_added) (or_fault (BadShape at) (where_true (has_only (codes "op" ∷ codes "add" ∷ []) d) (get (codes "add") d))))

-- what a `flat_map` makes of an item, and how many numbers it makes
abbrev pub flat_map_of : Data → Option (Spread × ℕ)
flat_map_of d = where_true (has_only (codes "op" ∷ codes "to" ∷ codes "n" ∷ []) d) (option_and_then (λ to. option_map (λ n. (to, n)) (u64_at (codes "n") d)) (spread_at d))

-- a `flat_map`, or `TooLarge` if it makes more of an item than is allowed
abbrev pub flat_map_in : ℕ → Data → Result Operator ScriptFault
flat_map_in at d = result_then (λ f. within at most_spread f.1 (one_deeper (flat_map_run (spread_run f.0 f.1)))) (or_fault (BadShape at) (flat_map_of d))

-- how a zip joins, and the chain that it joins with
abbrev pub zip_of : Data → Option (Joining × Data)
zip_of d = where_true (has_only (codes "op" ∷ codes "by" ∷ codes "with" ∷ []) d) (option_and_then (λ by. option_map (λ with. (by, with)) (get (codes "with") d)) (joining_at d))

-- the operator of this name; a zip is a `BadShape` here, since `zip_parts` reads it
abbrev pub operator_named : OpName → ℕ → Data → Result Operator ScriptFault
operator_named Map at d = or_fault (BadShape at) (map_of d)
operator_named Filter at d = or_fault (BadShape at) (filter_of d)
operator_named TakeWhile at d = or_fault (BadShape at) (take_while_of d)
operator_named Transform at d = transform_in at d
operator_named Take at d = or_fault (BadShape at) (take_of d)
operator_named DropFirst at d = or_fault (BadShape at) (drop_of d)
operator_named DropWhile at d = or_fault (BadShape at) (drop_while_of d)
operator_named Scan at d = or_fault (BadShape at) (scan_of d)
operator_named RunningReduce at d = or_fault (BadShape at) (running_reduce_of d)
operator_named FlatMap at d = flat_map_in at d
operator_named Zip at d = Err (BadShape at)
operator_named Distinct at d = or_fault (BadShape at) (distinct_of d)

-- the operator that the key `op` names, if it is not a zip
abbrev pub operator_in : Version → ℕ → Data → Result Operator ScriptFault
operator_in version at d = result_then (λ name. operator_named name at d) (or_fault (BadShape at) (op_name_of version d))

-- how an operator of this name joins, and the chain that it joins with, if it is a zip
abbrev pub zip_by : OpName → Data → Option (Joining × Data)
zip_by Zip d = zip_of d
zip_by _ d = None

-- how an operator joins, and the chain that it joins with, if it is a zip
abbrev pub zip_parts : Version → Data → Option (Joining × Data)
zip_parts version d = option_and_then (λ name. zip_by name d) (op_name_of version d)

-- ---- building

-- a chain, or why it could not be built
abbrev pub Build : Type 0
Build = Result BuiltChain ChainFault

-- how deep a chain may be
abbrev pub deepest : ℕ
deepest = 64

-- the chain with one more operator: a `take` of no items is refused first, then a chain that would be too deep
abbrev pub with_operator : Operator → BuiltChain → Build
with_operator o chain =
    if o.takes_none then Err NotPositive
    else (if nat_lt deepest (o.depth chain.depth) then Err TooDeep else Ok (record { depth = o.depth chain.depth; run = o.run chain.run }))

-- the chain with one more operator; a refusal of the chain takes precedence over one of the other chain of a zip
abbrev pub built_on : Build → Result Operator ChainFault → Build
built_on (Err fault) o = Err fault
built_on (Ok chain) (Err fault) = Err fault
built_on (Ok chain) (Ok o) = with_operator o chain

-- the chain that was read, with one more operator; a bad form anywhere in it takes precedence over a limit
abbrev pub joined_to : Result Build ScriptFault → Result (Result Operator ChainFault) ScriptFault → Result Build ScriptFault
joined_to (Ok chain) o = result_map (built_on chain) o
joined_to (Err fault) o = Err (first_fault fault o)

-- a `zip` with this chain, or why that chain could not be built
abbrev pub zip_with : Joining → Build → Result Operator ChainFault
zip_with by (Ok with) = Ok (zip_operator by with)
zip_with by (Err fault) = Err fault

-- a chain without operators, by its source
abbrev pub start_of : Result (ChainRun ℤ) ScriptFault → Result Build ScriptFault
start_of r = result_map (λ run. Ok (record { depth = 1; run = run })) r

-- the source and the operators of a chain
abbrev pub parts_of : Data → Option (Data × Items)
parts_of d = where_true (has_only (codes "from" ∷ codes "ops" ∷ []) d) (option_and_then (λ from. option_map (λ ops. (from, ops)) (option_and_then as_array (get (codes "ops") d))) (get (codes "from") d))

-- a `zip` with a chain that was read
abbrev pub zipped : Joining → Result Build ScriptFault → Result (Result Operator ChainFault) ScriptFault
zipped by r = result_map (zip_with by) r

-- an operator that is not a zip, so that no inner chain can be refused
abbrev pub plain_operator : Result Operator ScriptFault → Result (Result Operator ChainFault) ScriptFault
plain_operator r = result_map (λ o. Ok o) r

-- an operator; `chain_by` reads the other chain of a zip
abbrev pub operator_where : (Data → Result Build ScriptFault) → Version → ℕ → Data → Result (Result Operator ChainFault) ScriptFault
operator_where chain_by version at d = option_map_or (λ zip. zipped zip.0 (chain_by zip.1)) (zip_parts version d) (plain_operator (operator_in version at d))

-- the chain with these operators added in order; `operator_by` reads each of them
abbrev pub ops_on : (Data → Result (Result Operator ChainFault) ScriptFault) → Result Build ScriptFault → Items → Result Build ScriptFault
ops_on operator_by chain no_items = chain
ops_on operator_by chain (item d ds) = ops_on operator_by (joined_to chain (operator_by d)) ds

-- the chain of a text; it and the chains of its zips may nest this deep
abbrev pub chain_at : Version → ℕ → ℕ → Data → Result Build ScriptFault
chain_at version zero at d = Err (BadShape at)
chain_at version (suc levels) at d =
    result_then (λ parts. ops_on (operator_where (chain_at version levels at) version at) (start_of (source_in at parts.0)) parts.1) (or_fault (BadShape at) (parts_of d))

-- an operator; the chains of its zips may nest this deep
abbrev pub operator_at : Version → ℕ → ℕ → Data → Result (Result Operator ChainFault) ScriptFault
operator_at version levels at d = operator_where (chain_at version levels at) version at d

-- no text nests chains this deep: JSON nests at most 127 deep, and each zip adds three levels
unfoldable pub most_levels : ℕ
most_levels = 127

-- the chain of a text
abbrev pub chain_in : Version → ℕ → Data → Result Build ScriptFault
chain_in version at d = chain_at version most_levels at d
