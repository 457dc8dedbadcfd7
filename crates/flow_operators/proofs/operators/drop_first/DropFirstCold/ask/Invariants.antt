use Rattle.std.proofs.Common.{◌≡◌, ◌≤◌, true}
use Rattle.flow_law.specs.chain.OperatorRuns.{drop_run}
use Rattle.flow_operators.specs.Behind.{after_drop}
use Rattle.flow_operators.specs.SameChain.{StaysChain}
use Rattle.flow_operators.specs.Upstreams.{chain_of, is_ended, left_of}
use Rattle.flow_operators.proofs.operators.drop_first.DropFirstCold.ask.Given as goal

abbrev pub invariant-loop-item : goal.invariant-loop-item
invariant-loop-item g l = record {
  stays : StaysChain g.C.Cold (chain_of l.fn.self.upstream) (chain_of l.self.upstream);
  ended : is_ended l.self.upstream ≡ is_ended l.fn.self.upstream;
  over : is_ended l.fn.self.upstream ≡ true → l.self ≡ l.fn.self;
  count : l.self.count ≡ l.fn.self.count;
  fewer : g.C.Cold.bound.most_asks (chain_of l.self.upstream) ≤ g.C.Cold.bound.most_asks (chain_of l.fn.self.upstream);
  rest : (m : _) → g.C.Cold.Reads (chain_of l.fn.self.upstream) m
      → drop_run (left_of (λ c. g.C.Cold.rest c m) l.fn.self.upstream) l.fn.self.to_drop ≡ drop_run (left_of (λ c. g.C.Cold.rest c m) l.self.upstream) l.self.to_drop;
  behind : (m : _) → g.C.Cold.Reads (chain_of l.fn.self.upstream) m
      → after_drop (g.C.Cold.rest (chain_of l.fn.self.upstream) m) l.fn.self.to_drop ≡ after_drop (g.C.Cold.rest (chain_of l.self.upstream) m) l.self.to_drop;
}

abbrev pub decreases-loop-item : goal.decreases-loop-item
decreases-loop-item g l = g.C.Cold.bound.most_asks (chain_of l.self.upstream)
