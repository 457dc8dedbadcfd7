use Rattle.std.proofs.Common.{◌≡◌}
use Rattle.flow_law.specs.chain.ChainRun.{items, ending}
use Rattle.flow_operators.specs.SameChain.{StaysChain}
use Rattle.flow_operators.specs.Terminal.{last_of, last_after}
use Rattle.flow_operators.proofs.terminal.Terminal.last.Given as goal

abbrev pub invariant-loop-last : goal.invariant-loop-last
invariant-loop-last g l = record {
  stays : StaysChain g.Self.Cold l.fn.self l.self;
  last : (m : _) → g.Self.Cold.Reads l.fn.self m
      → last_of (items (g.Self.Cold.whole l.fn.self m)) (ending (g.Self.Cold.whole l.fn.self m)) ≡ last_after l.last (items (g.Self.Cold.rest l.self m)) (ending (g.Self.Cold.rest l.self m));
}

abbrev pub decreases-loop-last : goal.decreases-loop-last
decreases-loop-last g l = g.Self.Cold.bound.most_asks l.self
