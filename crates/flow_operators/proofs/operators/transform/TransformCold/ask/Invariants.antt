use Rattle.std.proofs.Common.{◌≡◌, ◌≤◌, ◌+◌, ◌*◌, ◌^◌, false, length, Result, List}
use Rattle.flow_law.specs.declared.chain.ChainFault.{ChainFault}
use Rattle.flow_law.specs.chain.OperatorRuns.{prepended, transform_run}
use Rattle.flow_operators.specs.Behind.{after_transform, unless_empty}
use Rattle.flow_operators.specs.Closures.{ComputesBy}
use Rattle.flow_operators.specs.Kept.{images_left}
use Rattle.flow_operators.specs.SameChain.{StaysChain}
use Rattle.flow_operators.specs.Upstreams.{chain_of, is_ended}
use Rattle.flow_operators.proofs.operators.transform.TransformCold.ask.Given as goal

abbrev pub invariant-loop-item : goal.invariant-loop-item
invariant-loop-item g l = record {
  stays : StaysChain g.C.Cold (chain_of l.fn.self.upstream) (chain_of l.self.upstream);
  closure : l.self.closure ≡ l.fn.self.closure;
  computes : (f : _ → Result (List _) ChainFault) → ComputesBy (λ v. v.items) (goal.F-post g l.fn.self.closure) f → ComputesBy (λ v. v.items) (goal.F-post g l.self.closure) f;
  runs : is_ended l.self.upstream ≡ false;
  fewer : g.C.Cold.bound.most_asks (chain_of l.self.upstream) * 2 ^ 64 + length (images_left (λ v. v.items) l.self.images)
      ≤ g.C.Cold.bound.most_asks (chain_of l.fn.self.upstream) * 2 ^ 64 + length (images_left (λ v. v.items) l.fn.self.images);
  rest : (m : _) (f : _ → Result (List _) ChainFault) → g.C.Cold.Reads (chain_of l.fn.self.upstream) m → ComputesBy (λ v. v.items) (goal.F-post g l.fn.self.closure) f
      → prepended (images_left (λ v. v.items) l.fn.self.images) (transform_run f (g.C.Cold.rest (chain_of l.fn.self.upstream) m))
      ≡ prepended (images_left (λ v. v.items) l.self.images) (transform_run f (g.C.Cold.rest (chain_of l.self.upstream) m));
  behind : (m : _) (f : _ → Result (List _) ChainFault) → g.C.Cold.Reads (chain_of l.fn.self.upstream) m → ComputesBy (λ v. v.items) (goal.F-post g l.fn.self.closure) f
      → unless_empty (images_left (λ v. v.items) l.fn.self.images) (g.C.Cold.rest (chain_of l.fn.self.upstream) m) (after_transform f (g.C.Cold.rest (chain_of l.fn.self.upstream) m))
      ≡ unless_empty (images_left (λ v. v.items) l.self.images) (g.C.Cold.rest (chain_of l.self.upstream) m) (after_transform f (g.C.Cold.rest (chain_of l.self.upstream) m));
}

abbrev pub decreases-loop-item : goal.decreases-loop-item
decreases-loop-item g l = g.C.Cold.bound.most_asks (chain_of l.self.upstream)
