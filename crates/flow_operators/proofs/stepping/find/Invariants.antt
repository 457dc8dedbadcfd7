use Rattle.std.proofs.Common.{◌≡◌, Bool}
use Rattle.std.specs.Prelude.{filter}
use Rattle.std.specs.Fn.{FnReturnsAt}
use Rattle.flow_law.specs.chain.ChainRun.{items, ending}
use Rattle.flow_operators.specs.Closures.{Decides}
use Rattle.flow_operators.specs.SameChain.{StaysChain}
use Rattle.flow_operators.specs.Stopping.{StandsAfterFound}
use Rattle.flow_operators.specs.Terminal.{first_of, sought}
use Rattle.flow_operators.proofs.stepping.find.Given as goal

abbrev pub invariant-loop-item : goal.invariant-loop-item
invariant-loop-item g l = record {
  stays : StaysChain g.C.Cold l.fn.chain l.chain;
  finds : (m : _) (p : _ → Bool) → g.C.Cold.Reads l.fn.chain m → Decides (λ x b. FnReturnsAt g.F.Fn l.fn.test x b) p
      → first_of (filter (sought l.fn.wanted p) (items (g.C.Cold.rest l.fn.chain m))) (ending (g.C.Cold.rest l.fn.chain m))
      ≡ first_of (filter (sought l.fn.wanted p) (items (g.C.Cold.rest l.chain m))) (ending (g.C.Cold.rest l.chain m));
  stands : (m : _) → g.C.Cold.Reads l.fn.chain m → (x : _) (after : _) → StandsAfterFound (λ y b. FnReturnsAt g.F.Fn l.fn.test y b) l.fn.wanted x (g.C.Cold.rest l.chain m) after
      → StandsAfterFound (λ y b. FnReturnsAt g.F.Fn l.fn.test y b) l.fn.wanted x (g.C.Cold.rest l.fn.chain m) after;
}

abbrev pub decreases-loop-item : goal.decreases-loop-item
decreases-loop-item g l = g.C.Cold.bound.most_asks l.chain
