-- The run of a script's operator has the meaning of `op_meaning`.
use Rattle.std.proofs.Common.{◌≡◌, ℤ, rules}
use Rattle.std.specs.Bool.{IsTrue}
use Rattle.std.specs.Ordering.{int_eq}
use Rattle.flow_law.specs.chain.Chain.{meaning_of}
use Rattle.flow_law.specs.chain.ChainRun.{ChainRun}
use Rattle.flow_law.proofs.ChainLemmas.{map_means, filter_means, take_while_means, transform_means, take_means, drop_means, drop_while_means, scan_means, running_reduce_means, flat_map_means, zip_means, distinct_means}
use Rattle.flow_cold.specs.declared.script_chain.op.Op.{Op}
use Rattle.flow_cold.specs.declared.script_chain.op.Op.TheVariants as op
use Rattle.flow_cold.specs.Build.{op_whole, op_meaning}
use Rattle.flow_cold.specs.Numbers.{computed, joined, passes, sums, spread_run}
use Rattle.flow_cold.specs.ScriptChain.{node_whole}

int_eq-exact : (x y : ℤ) → IsTrue (int_eq x y) → x ≡ y
int_eq-exact = search rules

pub op_means : (o : Op) (r : ChainRun ℤ) → meaning_of (op_whole o r) ≡ op_meaning o (meaning_of r)
op_means (op.Map by k) r = map_means (λ x. computed by (x, k)) r
op_means (op.Filter test) r = filter_means (passes test) r
op_means (op.TakeWhile test) r = take_while_means (passes test) r
op_means (op.Transform entries) r = transform_means (sums entries.items) r
op_means (op.Take count) r = take_means count r
op_means (op.DropFirst count) r = drop_means r count
op_means (op.DropWhile test) r = drop_while_means (passes test) r
op_means (op.RunningReduce by) r = running_reduce_means (computed by) r
op_means (op.Scan from by) r = scan_means (computed by) from r
op_means (op.FlatMap to count) r = flat_map_means (spread_run to count) r
op_means (op.Zip with by) r = zip_means (joined by) r (node_whole with.node)
op_means op.Distinct r = distinct_means int_eq int_eq-exact r
