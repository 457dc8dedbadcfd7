-- What an operator of a script makes of a chain.
use Rattle.std.specs.Prelude.{◌≡◌, ℕ, ◌+◌, ◌≤◌, ◌<◌, max, ℤ, None}
use Rattle.std.specs.Ordering.{int_eq}
use Rattle.flow_law.specs.declared.chain.ChainFault.{ChainFault}
use Rattle.flow_law.specs.declared.chain.ChainFault.TheVariants.{OutOfMemory, NotPositive, TooDeep}
use Rattle.flow_law.specs.chain.Chain.{Meaning, meaning_of, map_meaning, filter_meaning, take_while_meaning, transform_meaning, take_meaning, drop_meaning, drop_while_meaning, scan_meaning, running_reduce_meaning, flat_map_meaning, zip_meaning, distinct_meaning}
use Rattle.flow_law.specs.chain.ChainRun.{ChainRun, gives}
use Rattle.flow_law.specs.chain.OperatorRuns.{map_run, filter_run, take_while_run, transform_run, take_run, drop_run, drop_while_run, scan_run, running_reduce_run, flat_map_run, zip_run, distinct_run}
use Rattle.flow_cold.specs.declared.script_chain.op.Op.{Op}
use Rattle.flow_cold.specs.declared.script_chain.op.Op.TheVariants as op
use Rattle.flow_cold.specs.declared.script_chain.ScriptChain.{ScriptChain}
use Rattle.flow_cold.specs.Numbers.{computed, joined, passes, sums, spread_run}
use Rattle.flow_cold.specs.ScriptChain.{node_whole, node_rest}

-- how deep the chain is
abbrev pub depth_of : ScriptChain → ℕ
depth_of chain = chain.depth

-- the run of an operator on a run; `with_run` says which run of the other chain a zip pairs it with
abbrev pub op_run : (ScriptChain → ChainRun ℤ) → Op → ChainRun ℤ → ChainRun ℤ
op_run with_run (op.Map by k) r = map_run (λ x. computed by (x, k)) r
op_run with_run (op.Filter test) r = filter_run (passes test) r
op_run with_run (op.TakeWhile test) r = take_while_run (passes test) r
op_run with_run (op.Transform entries) r = transform_run (sums entries.items) r
op_run with_run (op.Take count) r = take_run count r
op_run with_run (op.DropFirst count) r = drop_run r count
op_run with_run (op.DropWhile test) r = drop_while_run (passes test) r
op_run with_run (op.Scan from by) r = gives from (scan_run (computed by) from r)
op_run with_run (op.RunningReduce by) r = running_reduce_run (computed by) None r
op_run with_run (op.FlatMap to count) r = flat_map_run (spread_run to count) r
op_run with_run (op.Zip with by) r = zip_run (joined by) r (with_run with)
op_run with_run op.Distinct r = distinct_run int_eq None r

-- the whole run of the operator on this run, with the whole run of a zip's other chain
abbrev pub op_whole : Op → ChainRun ℤ → ChainRun ℤ
op_whole = op_run (λ with. node_whole with.node)

-- the run of the operator on this run, with the rest of a zip's other chain
abbrev pub op_rest : Op → ChainRun ℤ → ChainRun ℤ
op_rest = op_run (λ with. node_rest with.node)

-- the depth with the operator on a chain of this depth: one more, and for a zip one more than its deeper side
abbrev pub op_depth : Op → ℕ → ℕ
op_depth (op.Zip with by) depth = max depth (depth_of with) + 1
op_depth _ depth = depth + 1

-- the operator is a `take` of no items
abbrev pub TakesNone : Op → Type 0
TakesNone (op.Take count) = count ≡ 0
TakesNone _ = ⊥

-- the operator is refused with this fault on a chain of this depth, before anything is made: NotPositive if it takes no items, else
-- TooDeep if the depth with it is over 64
abbrev pub RefusesDepth : Op → ℕ → ChainFault → Type 0
RefusesDepth o depth NotPositive = TakesNone o
RefusesDepth o depth TooDeep = (¬ TakesNone o) × (64 < op_depth o depth)
RefusesDepth o depth _ = ⊥

-- the operator is refused on this chain with this fault
abbrev pub RefusesOp : Op → ScriptChain → ChainFault → Type 0
RefusesOp o chain OutOfMemory = (¬ TakesNone o) × (op_depth o (depth_of chain) ≤ 64)
RefusesOp o chain fault = RefusesDepth o (depth_of chain) fault

-- the operator is not refused, and the depth with it is `new`
pub record AddsDepth (o : Op) (old new : ℕ) : Type 0 where
  pub depth : new ≡ op_depth o old
  pub shallow : new ≤ 64
  pub positive : ¬ TakesNone o

-- the meaning of the operator on a chain with this meaning
abbrev pub op_meaning : Op → Meaning ℤ → Meaning ℤ
op_meaning (op.Map by k) m = map_meaning (λ x. computed by (x, k)) m
op_meaning (op.Filter test) m = filter_meaning (passes test) m
op_meaning (op.TakeWhile test) m = take_while_meaning (passes test) m
op_meaning (op.Transform entries) m = transform_meaning (sums entries.items) m
op_meaning (op.Take count) m = take_meaning count m
op_meaning (op.DropFirst count) m = drop_meaning count m
op_meaning (op.DropWhile test) m = drop_while_meaning (passes test) m
op_meaning (op.Scan from by) m = scan_meaning (computed by) from m
op_meaning (op.RunningReduce by) m = running_reduce_meaning (computed by) m
op_meaning (op.FlatMap to count) m = flat_map_meaning (spread_run to count) m
op_meaning (op.Zip with by) m = zip_meaning (joined by) m (meaning_of (node_whole with.node))
op_meaning op.Distinct m = distinct_meaning int_eq m
