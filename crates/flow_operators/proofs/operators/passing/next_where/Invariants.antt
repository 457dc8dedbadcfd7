use Rattle.std.proofs.Common.{◌≡◌, ◌≤◌, Bool, true}
use Rattle.std.specs.Fn.{FnReturnsAt}
use Rattle.flow_operators.specs.Closures.{Decides}
use Rattle.flow_operators.specs.Passing.{from_passing}
use Rattle.flow_operators.specs.SameChain.{StaysChain}
use Rattle.flow_operators.specs.Terminal.{sought}
use Rattle.flow_operators.specs.Upstreams.{chain_of, is_ended, left_of}
use Rattle.flow_operators.proofs.operators.passing.next_where.Given as goal

abbrev pub invariant-loop-item : goal.invariant-loop-item
invariant-loop-item g l = record {
  stays : StaysChain g.C.Cold (chain_of l.fn.upstream) (chain_of l.upstream);
  ended : is_ended l.upstream ≡ is_ended l.fn.upstream;
  over : is_ended l.fn.upstream ≡ true → l.upstream ≡ l.fn.upstream;
  fewer : g.C.Cold.bound.most_asks (chain_of l.upstream) ≤ g.C.Cold.bound.most_asks (chain_of l.fn.upstream);
  rest : (m : _) (p : _ → Bool) → g.C.Cold.Reads (chain_of l.fn.upstream) m → Decides (λ x b. FnReturnsAt g.F.Fn l.fn.test x b) p
      → from_passing (sought l.fn.wanted p) (left_of (λ c. g.C.Cold.rest c m) l.fn.upstream) ≡ from_passing (sought l.fn.wanted p) (left_of (λ c. g.C.Cold.rest c m) l.upstream);
  behind : (m : _) (p : _ → Bool) → g.C.Cold.Reads (chain_of l.fn.upstream) m → Decides (λ x b. FnReturnsAt g.F.Fn l.fn.test x b) p
      → from_passing (sought l.fn.wanted p) (g.C.Cold.rest (chain_of l.fn.upstream) m) ≡ from_passing (sought l.fn.wanted p) (g.C.Cold.rest (chain_of l.upstream) m);
}

abbrev pub decreases-loop-item : goal.decreases-loop-item
decreases-loop-item g l = g.C.Cold.bound.most_asks (chain_of l.upstream)
