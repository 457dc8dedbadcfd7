use Rattle.std.proofs.Common.{◌≡◌, ◌≤◌, ◌+◌, ◌*◌, false, Result}
use Rattle.std.specs.Prelude.{IfSome}
use Rattle.flow_law.specs.declared.chain.ChainFault.{ChainFault}
use Rattle.flow_law.specs.chain.ChainRun.{ChainRun}
use Rattle.flow_law.specs.chain.OperatorRuns.{flat_map_run, followed}
use Rattle.flow_operators.specs.Behind.{after_flat_map, unless_completed}
use Rattle.flow_operators.specs.Closures.{Opens, OpensOnly}
use Rattle.flow_operators.specs.InnerChains.{ReadsByItem, inner_chain, rest_by_item}
use Rattle.flow_operators.specs.Kept.{inner_left, most_inner}
use Rattle.flow_operators.specs.SameChain.{StaysChain}
use Rattle.flow_operators.specs.Upstreams.{chain_of, is_ended}
use Rattle.flow_operators.proofs.operators.flat_map_concat.FlatMapConcatCold.ask.Given as goal

abbrev pub invariant-loop-item : goal.invariant-loop-item
invariant-loop-item g l = record {
  inner_lasting : IfSome l.fn.self.inner (λ inner. g.D.Cold.IsGiven (inner_chain inner)) → OpensOnly g.D.Cold.IsGiven (goal.F-post g l.fn.self.closure)
      → IfSome l.self.inner (λ inner. g.D.Cold.IsGiven (inner_chain inner));
  stays : StaysChain g.C.Cold (chain_of l.fn.self.upstream) (chain_of l.self.upstream);
  inner : IfSome l.self.inner (λ inner. g.D.Cold.CanAsk (inner_chain inner));
  closure : l.self.closure ≡ l.fn.self.closure;
  opens : OpensOnly g.D.Cold.CanAsk (goal.F-post g l.self.closure);
  computes : (n : _) (f : _ → Result (ChainRun _) ChainFault) → Opens g.D.Cold.Reads g.D.Cold.whole (goal.F-post g l.fn.self.closure) n f
      → Opens g.D.Cold.Reads g.D.Cold.whole (goal.F-post g l.self.closure) n f;
  runs : is_ended l.self.upstream ≡ false;
  fewer : g.C.Cold.bound.most_asks (chain_of l.self.upstream) * (g.D.Cold.bound.limit + 1) + most_inner (λ inner. g.D.Cold.bound.most_asks (inner_chain inner)) l.self.inner
      ≤ g.C.Cold.bound.most_asks (chain_of l.fn.self.upstream) * (g.D.Cold.bound.limit + 1) + most_inner (λ inner. g.D.Cold.bound.most_asks (inner_chain inner)) l.fn.self.inner;
  inner_reads : (n : _) (f : _ → Result (ChainRun _) ChainFault) → IfSome l.fn.self.inner (ReadsByItem g.D.Cold.Reads n)
      → Opens g.D.Cold.Reads g.D.Cold.whole (goal.F-post g l.fn.self.closure) n f → IfSome l.self.inner (ReadsByItem g.D.Cold.Reads n);
  rest : (m : _) (n : _) (f : _ → Result (ChainRun _) ChainFault) → g.C.Cold.Reads (chain_of l.fn.self.upstream) m → IfSome l.fn.self.inner (ReadsByItem g.D.Cold.Reads n)
      → Opens g.D.Cold.Reads g.D.Cold.whole (goal.F-post g l.fn.self.closure) n f
      → followed (inner_left (rest_by_item g.D.Cold.rest n) l.fn.self.inner) (flat_map_run f (g.C.Cold.rest (chain_of l.fn.self.upstream) m))
      ≡ followed (inner_left (rest_by_item g.D.Cold.rest n) l.self.inner) (flat_map_run f (g.C.Cold.rest (chain_of l.self.upstream) m));
  behind : (m : _) (n : _) (f : _ → Result (ChainRun _) ChainFault) → g.C.Cold.Reads (chain_of l.fn.self.upstream) m → IfSome l.fn.self.inner (ReadsByItem g.D.Cold.Reads n)
      → Opens g.D.Cold.Reads g.D.Cold.whole (goal.F-post g l.fn.self.closure) n f
      → unless_completed (inner_left (rest_by_item g.D.Cold.rest n) l.fn.self.inner) (g.C.Cold.rest (chain_of l.fn.self.upstream) m) (after_flat_map f (g.C.Cold.rest (chain_of l.fn.self.upstream) m))
      ≡ unless_completed (inner_left (rest_by_item g.D.Cold.rest n) l.self.inner) (g.C.Cold.rest (chain_of l.self.upstream) m) (after_flat_map f (g.C.Cold.rest (chain_of l.self.upstream) m));
}

abbrev pub decreases-loop-item : goal.decreases-loop-item
decreases-loop-item g l = g.C.Cold.bound.most_asks (chain_of l.self.upstream)
