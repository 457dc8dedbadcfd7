-- What one ask of each operator on whole numbers takes from its upstream, by the state that the operator keeps.
use Rattle.std.specs.Prelude.{◌≡◌, ℤ, Option, Some, None, Result, drop, replicate}
use Rattle.std.specs.Ordering.{int_eq}
use Rattle.flow_law.specs.declared.chain.ChainFault.{ChainFault}
use Rattle.flow_law.specs.chain.ChainRun.{ChainRun, list_run}
use Rattle.flow_operators.specs.Behind.{rest_after_ask, after_filter, after_drop, after_drop_while, after_distinct, after_scan, unless_empty, after_transform, unless_completed, after_flat_map}
use Rattle.flow_operators.specs.Kept.{unless_ended}
use Rattle.flow_cold.specs.declared.script_chain.op.Spread.TheVariants as spread
use Rattle.flow_cold.specs.declared.script_chain.node.Phase.{Phase}
use Rattle.flow_cold.specs.declared.script_chain.node.Phase.TheVariants.{Ready, Holding, Over}
use Rattle.flow_cold.specs.declared.script_chain.node.Stage.{Stage}
use Rattle.flow_cold.specs.declared.script_chain.operator.Operator.{Operator}
use Rattle.flow_cold.specs.declared.script_chain.operator.Operator.TheVariants.{Map, Filter, TakeWhile, Transform, Take, DropFirst, DropWhile, Scan, RunningReduce, FlatMapRange, FlatMapRepeat, Distinct}
use Rattle.flow_cold.specs.declared.script_chain.state.Adding.{Adding}
use Rattle.flow_cold.specs.declared.script_chain.inner.Following.{Following}
use Rattle.flow_cold.specs.declared.script_chain.inner.Repeating.{Repeating}
use Rattle.flow_cold.specs.declared.script_chain.operator.Step.{Step}
use Rattle.flow_cold.specs.declared.script_chain.operator.Step.TheVariants.{Nothing, Held}
use Rattle.flow_cold.specs.Numbers.{passes, sums, spread_run}
use Rattle.flow_operators.specs.Sources.{range_run}

-- the rest of the upstream after one ask of a `transform`
abbrev pub after_adding : Adding → ChainRun ℤ → ChainRun ℤ
after_adding s r = unless_empty (drop s.at s.entries.items) r (after_transform (sums s.entries.items) r)

-- the rest of the upstream after one ask of a `flatMapConcat` to ranges
abbrev pub after_following : Following → ChainRun ℤ → ChainRun ℤ
after_following s r = unless_completed (unless_ended s.closed (range_run s.next s.last)) r (after_flat_map (spread_run spread.Range s.count) r)

-- the rest of the upstream after one ask of a `flatMapConcat` to repeated items
abbrev pub after_repeating : Repeating → ChainRun ℤ → ChainRun ℤ
after_repeating s r = unless_completed (list_run (replicate s.left s.item)) r (after_flat_map (spread_run spread.Repeat s.count) r)

-- the rest of the upstream after one ask of an operator that holds nothing back; r is the rest before
abbrev pub after_ready : Operator → ChainRun ℤ → ChainRun ℤ
after_ready (Map s) r = rest_after_ask r
after_ready (Filter test) r = after_filter (passes test) r
after_ready (TakeWhile test) r = rest_after_ask r
after_ready (Transform s) r = after_transform (sums s.entries.items) r
after_ready (Take s) r = rest_after_ask r
after_ready (DropFirst s) r = after_drop r s.left
after_ready (DropWhile s) r = after_drop_while (passes s.test) s.dropping r
after_ready (RunningReduce s) r = rest_after_ask r
after_ready (Scan s) r = rest_after_ask r
after_ready (FlatMapRange s) r = after_flat_map (spread_run spread.Range s.count) r
after_ready (FlatMapRepeat s) r = after_flat_map (spread_run spread.Repeat s.count) r
after_ready (Distinct s) r = after_distinct int_eq s.last r

-- the rest of the upstream after one ask of an operator that may hold numbers back
abbrev pub after_held : Operator → ChainRun ℤ → ChainRun ℤ
after_held (Transform s) r = after_adding s r
after_held (Scan s) r = after_scan s.begun r
after_held (FlatMapRange s) r = after_following s r
after_held (FlatMapRepeat s) r = after_repeating s r
after_held o r = after_ready o r

-- the rest of the upstream after one ask in this phase
abbrev pub after_in : Phase → Operator → ChainRun ℤ → ChainRun ℤ
after_in Ready o r = after_ready o r
after_in Holding o r = after_held o r
after_in Over o r = r

-- the rest of the upstream after one ask of the stage
abbrev pub after_stage : Stage → ChainRun ℤ → ChainRun ℤ
after_stage stage r = after_in stage.phase stage.operator r

-- `due` is the rest of the upstream after the whole ask. If the step is an answer, that is r, since nothing more is asked; else it is what
-- further asks leave.
abbrev pub StepLeaves : ChainRun ℤ → Step → ChainRun ℤ → ChainRun ℤ → Type 0
StepLeaves due Nothing r further = due ≡ further
StepLeaves due Held r further = due ≡ further
StepLeaves due _ r further = due ≡ r

-- `due` is r if the next held number is the answer, else what further asks leave
abbrev pub HeldLeaves : ChainRun ℤ → Option (Result ℤ ChainFault) → ChainRun ℤ → ChainRun ℤ → Type 0
HeldLeaves due None r further = due ≡ further
HeldLeaves due (Some y) r further = due ≡ r
