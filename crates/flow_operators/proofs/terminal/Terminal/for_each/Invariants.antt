use denote.Param.Always.{always_mut}
use Rattle.flow_law.specs.declared.chain.ChainFault.{ChainFault}
use Rattle.flow_law.specs.chain.ChainRun.{items, ending}
use Rattle.flow_operators.specs.SameChain.{StaysChain}
use Rattle.flow_operators.specs.Stopping.{StandsAfterVisited}
use Rattle.flow_operators.specs.Terminal.{Visits}
use Rattle.flow_operators.proofs.terminal.Terminal.for_each.Given as goal

abbrev pub invariant-loop-item : goal.invariant-loop-item
invariant-loop-item g l = record {
  stays : StaysChain g.Self.Cold l.fn.self l.self;
  visiting : always_mut g.F.FnMut l.visit;
  visits : (m : _) → g.Self.Cold.Reads l.fn.self m → (r : _) → Visits (λ f x r h. goal.F-step g f x r h) l.visit (items (g.Self.Cold.rest l.self m)) (ending (g.Self.Cold.rest l.self m)) r
      → Visits (λ f x r h. goal.F-step g f x r h) l.fn.visit (items (g.Self.Cold.whole l.fn.self m)) (ending (g.Self.Cold.whole l.fn.self m)) r;
  stands : (m : _) → g.Self.Cold.Reads l.fn.self m → (fault : ChainFault) (after : _) → StandsAfterVisited (λ f x r h. goal.F-step g f x r h) fault l.visit (g.Self.Cold.rest l.self m) after
      → StandsAfterVisited (λ f x r h. goal.F-step g f x r h) fault l.fn.visit (g.Self.Cold.whole l.fn.self m) after;
}

abbrev pub decreases-loop-item : goal.decreases-loop-item
decreases-loop-item g l = g.Self.Cold.bound.most_asks l.self
