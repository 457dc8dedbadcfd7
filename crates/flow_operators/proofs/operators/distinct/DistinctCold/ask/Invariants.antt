use Rattle.std.proofs.Common.{◌≡◌, ◌≤◌, true}
use Rattle.flow_law.specs.chain.OperatorRuns.{distinct_run}
use Rattle.flow_operators.specs.Behind.{after_distinct}
use Rattle.flow_operators.specs.SameChain.{StaysChain}
use Rattle.flow_operators.specs.Upstreams.{chain_of, is_ended, left_of}
use Rattle.flow_operators.proofs.operators.distinct.DistinctCold.ask.Given as goal

abbrev pub invariant-loop-item : goal.invariant-loop-item
invariant-loop-item g l = record {
  stays : StaysChain g.C.Cold (chain_of l.fn.self.upstream) (chain_of l.self.upstream);
  ended : is_ended l.self.upstream ≡ is_ended l.fn.self.upstream;
  over : is_ended l.fn.self.upstream ≡ true → l.self ≡ l.fn.self;
  fewer : g.C.Cold.bound.most_asks (chain_of l.self.upstream) ≤ g.C.Cold.bound.most_asks (chain_of l.fn.self.upstream);
  rest : (m : _) → g.C.Cold.Reads (chain_of l.fn.self.upstream) m
      → distinct_run g.C.Item.FlowValue.is_same l.fn.self.last (left_of (λ c. g.C.Cold.rest c m) l.fn.self.upstream)
      ≡ distinct_run g.C.Item.FlowValue.is_same l.self.last (left_of (λ c. g.C.Cold.rest c m) l.self.upstream);
  behind : (m : _) → g.C.Cold.Reads (chain_of l.fn.self.upstream) m
      → after_distinct g.C.Item.FlowValue.is_same l.fn.self.last (g.C.Cold.rest (chain_of l.fn.self.upstream) m)
      ≡ after_distinct g.C.Item.FlowValue.is_same l.self.last (g.C.Cold.rest (chain_of l.self.upstream) m);
}

abbrev pub decreases-loop-item : goal.decreases-loop-item
decreases-loop-item g l = g.C.Cold.bound.most_asks (chain_of l.self.upstream)
