use Rattle.std.proofs.Common.{◌≡◌, ◌+◌, ◌<◌, ◌^◌, length}
use Rattle.flow_law.specs.chain.ChainRun.{items, ending}
use Rattle.flow_operators.specs.Collecting.{IsRestOf}
use Rattle.flow_operators.specs.SameChain.{StaysChain}
use Rattle.flow_operators.proofs.terminal.Terminal.count.Given as goal

abbrev pub invariant-loop-next : goal.invariant-loop-next
invariant-loop-next g l = record {
  stays : StaysChain g.Self.Cold l.fn.self l.self;
  fits : l.count < 2 ^ 64;
  count : (m : _) → g.Self.Cold.Reads l.fn.self m → length (items (g.Self.Cold.whole l.fn.self m)) ≡ l.count + length (items (g.Self.Cold.rest l.self m));
  ending : (m : _) → g.Self.Cold.Reads l.fn.self m → ending (g.Self.Cold.whole l.fn.self m) ≡ ending (g.Self.Cold.rest l.self m);
  stands : (m : _) → g.Self.Cold.Reads l.fn.self m → IsRestOf (g.Self.Cold.whole l.fn.self m) (g.Self.Cold.rest l.self m);
}

abbrev pub decreases-loop-next : goal.decreases-loop-next
decreases-loop-next g l = g.Self.Cold.bound.most_asks l.self
