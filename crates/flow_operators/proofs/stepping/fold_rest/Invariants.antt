use Rattle.std.proofs.Common.{◌≡◌, Result}
use Rattle.flow_law.specs.declared.chain.ChainFault.{ChainFault}
use Rattle.flow_law.specs.chain.ChainRun.{items, ending}
use Rattle.flow_operators.specs.Closures.{ComputesPairs}
use Rattle.flow_operators.specs.SameChain.{StaysChain}
use Rattle.flow_operators.specs.Stopping.{StandsAfterFailed}
use Rattle.flow_operators.specs.Terminal.{folded}
use Rattle.flow_operators.proofs.stepping.fold_rest.Given as goal

abbrev pub invariant-loop-item : goal.invariant-loop-item
invariant-loop-item g l = record {
  stays : StaysChain g.C.Cold l.fn.chain l.chain;
  folds : (m : _) (f : _ → Result _ ChainFault) → g.C.Cold.Reads l.fn.chain m → ComputesPairs (goal.F-post g l.fn.closure) f
      → folded f l.fn.initial (items (g.C.Cold.rest l.fn.chain m)) (ending (g.C.Cold.rest l.fn.chain m)) ≡ folded f l.last (items (g.C.Cold.rest l.chain m)) (ending (g.C.Cold.rest l.chain m));
  stands : (m : _) → g.C.Cold.Reads l.fn.chain m → (fault : ChainFault) (after : _) → StandsAfterFailed (goal.F-post g l.fn.closure) fault l.last (g.C.Cold.rest l.chain m) after
      → StandsAfterFailed (goal.F-post g l.fn.closure) fault l.fn.initial (g.C.Cold.rest l.fn.chain m) after;
}

abbrev pub decreases-loop-item : goal.decreases-loop-item
decreases-loop-item g l = g.C.Cold.bound.most_asks l.chain
