-- How a drain through a reader ends.
use Rattle.std.proofs.Common.{◌≡◌, ◌⊎◌, inl, inr, ℕ, List, Result, Ok, Err, IfErr}
use Rattle.std.specs.Result.{OnErr}
use Rattle.flow_law.specs.declared.fault.FlowFault.{FlowFault}
use Rattle.flow_law.specs.declared.fault.FlowFault.TheVariants as why
use Rattle.flow_law.specs.declared.history.Said.{Said}
use Rattle.flow_law.specs.declared.outcome.Drained.{Drained}
use Rattle.flow_law.specs.declared.errors.OutOfMemory.{OutOfMemory}
use Rattle.flow_law.specs.flow.Draining.{DrainsBy, EndsBy}
use Rattle.flow_law.specs.history.HandleFaults.{answer_by, memory_fault}
use Rattle.flow_law.specs.history.History.{Kind}
use Rattle.flow_law.specs.history.Lawful.{Lawful}
use Rattle.flow_law.proofs.TokenLemmas.{next_fault}
use Rattle.flow_gate.specs.Tokens.{GateOrigin}
use Rattle.flow_shared.specs.Calls.{GateNumbered, NextsOf}
use Rattle.flow_shared.specs.BoundReplies.{drained_by}
use Rattle.flow_shared.specs.declared.drain.DrainEnd.{DrainEnd}
use Rattle.flow_shared.specs.declared.drain.DrainEnd.TheVariants as drain_end

module _ {T S C R : Type 0} (kind : Kind T S C R) (law : Lawful kind) (flow : GateOrigin S) where
  ended_fault : (s u : GateNumbered (Said C R)) (fault : FlowFault) → EndsBy (NextsOf kind flow) s (Err fault) u → fault ≡ why.OutOfMemory
  ended_fault s u fault (inl called) = next_fault kind law flow.first s.token.knows u.token.knows s.number (Err fault) called.0.1
  ended_fault s u fault (inr none) = none.0

  -- a drain is refused only with `OutOfMemory`
  pub drain_fault : (most : ℕ) (s u : GateNumbered (Said C R)) (old new : List T) (result : Result Drained FlowFault) → DrainsBy (NextsOf kind flow) most s old result new u → IfErr result (λ f. f ≡ why.OutOfMemory)
  drain_fault most s u old new (Ok end) d = tt
  drain_fault most s u old new (Err fault) d = ended_fault d.last u fault d.ended

-- a drain through a reader is refused only if the flow's own drain is
pub ends_alike : (P : Type 0) (r : Result DrainEnd OutOfMemory) → OnErr (drained_by (answer_by memory_fault r)) P → OnErr r P
ends_alike P (Ok drain_end.Most) h = tt
ends_alike P (Ok drain_end.Empty) h = tt
ends_alike P (Err e) h = h
