-- What a call that waits for a value does, for any kind of flow. Begin with `FlowReceives`. `flow` is the flow: which one, and the
-- state that it began with.
use Rattle.std.specs.Prelude.{List, [], ◌∷◌, Result, Ok, Err}
use Rattle.flow_law.specs.declared.fault.FlowFault.{FlowFault}
use Rattle.flow_law.specs.declared.history.Said.{Said}
use Rattle.flow_law.specs.declared.outcome.Next.{Next}
use Rattle.flow_law.specs.declared.outcome.Next.TheVariants.{Value, Empty}
use Rattle.flow_law.specs.history.History.{Kind}
use Rattle.flow_gate.specs.Tokens.{GateOrigin}
use Rattle.flow_shared.specs.Calls.{GateNumbered, NextsOf}

-- the answer of the `next` that ends the wait
abbrev pub as_next : {T : Type 0} → Result T FlowFault → Result (Next T) FlowFault
as_next (Ok v) = Ok (Value v)
as_next (Err fault) = Err fault

module _ {T S C R : Type 0} (kind : Kind T S C R) (flow : GateOrigin S) where
  -- calls of `next` that found nothing, by the subscriptions after each, and then one with this answer
  abbrev pub NextsAfter : List (GateNumbered (Said C R)) → GateNumbered (Said C R) → Result (Next T) FlowFault → GateNumbered (Said C R) → Type 0
  NextsAfter [] old answer new = NextsOf kind flow old answer new
  NextsAfter (u ∷ us) old answer new = NextsOf kind flow old (Ok Empty) u × NextsAfter us u answer new

  -- some calls of `next` that found nothing, each one event, and then one with this answer
  abbrev pub NextsUntil : GateNumbered (Said C R) → Result (Next T) FlowFault → GateNumbered (Said C R) → Type 0
  NextsUntil old answer new = (us : List (GateNumbered (Said C R))) × NextsAfter us old answer new

  -- some calls of `next` that found nothing, and then one that gave this value or this refusal
  abbrev pub FlowReceives : GateNumbered (Said C R) → Result T FlowFault → GateNumbered (Said C R) → Type 0
  FlowReceives old result new = NextsUntil old (as_next result) new
