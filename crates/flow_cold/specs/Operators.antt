-- The operators on whole numbers, by the state that each keeps. Public clauses reach this module only through definitions of `ScriptChain`.
use Rattle.std.specs.Prelude.{◌≡◌, suc, ℤ, ◌+ℤ◌, cond, List, [], ◌∷◌, drop, replicate, Option, Some, None, Result, Ok, Err}
use Rattle.std.specs.Ordering.{int_eq}
use Rattle.flow_law.specs.declared.chain.ChainFault.{ChainFault}
use Rattle.flow_law.specs.declared.chain.End.TheVariants.{Completed, Failed}
use Rattle.flow_law.specs.chain.ChainRun.{ChainRun, gives, ends, list_run}
use Rattle.flow_law.specs.chain.OperatorRuns.{continued, map_run, filter_run, take_while_run, take_run, drop_run, drop_while_run, distinct_run, scan_run, running_reduce_run, transform_run, followed, flat_map_run}
use Rattle.flow_operators.specs.Kept.{unless_ended, drop_while_rest}
use Rattle.flow_cold.specs.declared.script_chain.op.Spread.TheVariants as spread
use Rattle.flow_cold.specs.declared.script_chain.operator.Operator.{Operator}
use Rattle.flow_cold.specs.declared.script_chain.operator.Operator.TheVariants.{Map, Filter, TakeWhile, Transform, Take, DropFirst, DropWhile, Scan, RunningReduce, FlatMapRange, FlatMapRepeat, Distinct}
use Rattle.flow_cold.specs.declared.script_chain.node.Phase.{Phase}
use Rattle.flow_cold.specs.declared.script_chain.node.Phase.TheVariants.{Ready, Holding, Over}
use Rattle.flow_cold.specs.declared.script_chain.node.Stage.{Stage}
use Rattle.flow_cold.specs.declared.script_chain.state.Adding.{Adding}
use Rattle.flow_cold.specs.declared.script_chain.inner.Following.{Following}
use Rattle.flow_cold.specs.declared.script_chain.inner.Repeating.{Repeating}
use Rattle.flow_cold.specs.declared.script_chain.state.Scanning.{Scanning}
use Rattle.flow_cold.specs.declared.script_chain.operator.Step.{Step}
use Rattle.flow_cold.specs.declared.script_chain.operator.Step.TheVariants.{Item, Last, Nothing, Held, End, Fault}
use Rattle.flow_cold.specs.Numbers.{computed, passes, sums, ranged, spread_run}
use Rattle.flow_operators.specs.Sources.{range_run}

-- the whole run of the operator on this run
abbrev pub operator_whole : Operator → ChainRun ℤ → ChainRun ℤ
operator_whole (Map s) r = map_run (λ x. computed s.by (x, s.k)) r
operator_whole (Filter test) r = filter_run (passes test) r
operator_whole (TakeWhile test) r = take_while_run (passes test) r
operator_whole (Transform s) r = transform_run (sums s.entries.items) r
operator_whole (Take s) r = take_run (suc s.more) r
operator_whole (DropFirst s) r = drop_run r s.count
operator_whole (DropWhile s) r = drop_while_run (passes s.test) r
operator_whole (RunningReduce s) r = running_reduce_run (computed s.by) None r
operator_whole (Scan s) r = gives s.initial (scan_run (computed s.by) s.initial r)
operator_whole (FlatMapRange s) r = flat_map_run (spread_run spread.Range s.count) r
operator_whole (FlatMapRepeat s) r = flat_map_run (spread_run spread.Repeat s.count) r
operator_whole (Distinct s) r = distinct_run int_eq None r

-- the sums of x and the entries, then r
abbrev pub with_sums : ℤ → List ℤ → ChainRun ℤ → ChainRun ℤ
with_sums x [] r = r
with_sums x (d ∷ ds) r = continued (ranged (x +ℤ d)) (λ y. gives y (with_sums x ds r))

-- the rest of a `transform`; r is the rest of its upstream
abbrev pub adding_rest : Adding → ChainRun ℤ → ChainRun ℤ
adding_rest s r = with_sums s.item (drop s.at s.entries.items) (transform_run (sums s.entries.items) r)

-- the rest of a `scan`
abbrev pub scanning_rest : Scanning → ChainRun ℤ → ChainRun ℤ
scanning_rest s r = cond s.begun (scan_run (computed s.by) s.last r) (gives s.initial (scan_run (computed s.by) s.initial r))

-- the rest of a `flatMapConcat` to ranges
abbrev pub following_rest : Following → ChainRun ℤ → ChainRun ℤ
following_rest s r = followed (unless_ended s.closed (range_run s.next s.last)) (flat_map_run (spread_run spread.Range s.count) r)

-- the rest of a `flatMapConcat` to repeated items
abbrev pub repeating_rest : Repeating → ChainRun ℤ → ChainRun ℤ
repeating_rest s r = followed (list_run (replicate s.left s.item)) (flat_map_run (spread_run spread.Repeat s.count) r)

-- the rest of an operator that holds nothing back
abbrev pub ready_rest : Operator → ChainRun ℤ → ChainRun ℤ
ready_rest (Map s) r = map_run (λ x. computed s.by (x, s.k)) r
ready_rest (Filter test) r = filter_run (passes test) r
ready_rest (TakeWhile test) r = take_while_run (passes test) r
ready_rest (Transform s) r = transform_run (sums s.entries.items) r
ready_rest (Take s) r = take_run (suc s.left) r
ready_rest (DropFirst s) r = drop_run r s.left
ready_rest (DropWhile s) r = drop_while_rest (passes s.test) s.dropping r
ready_rest (RunningReduce s) r = running_reduce_run (computed s.by) s.last r
ready_rest (Scan s) r = scan_run (computed s.by) s.last r
ready_rest (FlatMapRange s) r = flat_map_run (spread_run spread.Range s.count) r
ready_rest (FlatMapRepeat s) r = flat_map_run (spread_run spread.Repeat s.count) r
ready_rest (Distinct s) r = distinct_run int_eq s.last r

-- the rest of an operator that may hold numbers back
abbrev pub held_rest : Operator → ChainRun ℤ → ChainRun ℤ
held_rest (Transform s) r = adding_rest s r
held_rest (Scan s) r = scanning_rest s r
held_rest (FlatMapRange s) r = following_rest s r
held_rest (FlatMapRepeat s) r = repeating_rest s r
held_rest o r = ready_rest o r

-- the rest before and after the next held number, or the fault in its place; None if no number is held
abbrev pub HeldGives : ChainRun ℤ → Option (Result ℤ ChainFault) → ChainRun ℤ → Type 0
HeldGives before (Some (Ok y)) after = before ≡ gives y after
HeldGives before (Some (Err fault)) after = before ≡ ends (Failed fault)
HeldGives before None after = before ≡ after

-- `held` after a held number or a fault in its place, `ready` if no number was held
abbrev pub after_number : {A : Type 0} → Option (Result ℤ ChainFault) → A → A → A
after_number (Some y) held ready = held
after_number None held ready = ready

-- the rest before and after a step on an item
abbrev pub StepGives : ChainRun ℤ → Step → ChainRun ℤ → Type 0
StepGives before (Item y) after = before ≡ gives y after
StepGives before (Last y) after = before ≡ gives y (ends Completed)
StepGives before Nothing after = before ≡ after
StepGives before Held after = before ≡ after
StepGives before End after = before ≡ ends Completed
StepGives before (Fault fault) after = before ≡ ends (Failed fault)

-- `held` after a step that holds numbers back, else `ready`
abbrev pub after_step : {A : Type 0} → Step → A → A → A
after_step Held held ready = held
after_step _ held ready = ready

-- the rest of the operator in this phase
abbrev pub rest_in : Phase → Operator → ChainRun ℤ → ChainRun ℤ
rest_in Ready o r = ready_rest o r
rest_in Holding o r = held_rest o r
rest_in Over o r = ends Completed

-- the rest of the stage
abbrev pub stage_rest : Stage → ChainRun ℤ → ChainRun ℤ
stage_rest stage r = rest_in stage.phase stage.operator r

-- the stage has ended; a `take` ends with its last item
abbrev pub IsStageOver : Stage → Type 0
IsStageOver stage = stage.phase ≡ Over

-- the phase in which an operator begins
abbrev pub first_phase : Operator → Phase
first_phase (Scan s) = Holding
first_phase _ = Ready
