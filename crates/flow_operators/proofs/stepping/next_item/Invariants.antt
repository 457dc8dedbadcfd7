use Rattle.std.proofs.Common.{◌≡◌, ◌≤◌}
use Rattle.flow_law.specs.chain.ChainRun.{items, ending}
use Rattle.flow_operators.specs.SameChain.{StaysChain}
use Rattle.flow_operators.specs.Stopping.{from_item}
use Rattle.flow_operators.proofs.stepping.next_item.Given as goal

abbrev pub invariant-loop-item : goal.invariant-loop-item
invariant-loop-item g l = record {
  stays : StaysChain g.C.Cold l.fn.chain l.chain;
  fewer : g.C.Cold.bound.most_asks l.chain ≤ g.C.Cold.bound.most_asks l.fn.chain;
  items : (m : _) → g.C.Cold.Reads l.fn.chain m → items (g.C.Cold.rest l.fn.chain m) ≡ items (g.C.Cold.rest l.chain m);
  ending : (m : _) → g.C.Cold.Reads l.fn.chain m → ending (g.C.Cold.rest l.fn.chain m) ≡ ending (g.C.Cold.rest l.chain m);
  stands : (m : _) → g.C.Cold.Reads l.fn.chain m → from_item (g.C.Cold.rest l.fn.chain m) ≡ from_item (g.C.Cold.rest l.chain m);
}

abbrev pub decreases-loop-item : goal.decreases-loop-item
decreases-loop-item g l = g.C.Cold.bound.most_asks l.chain
