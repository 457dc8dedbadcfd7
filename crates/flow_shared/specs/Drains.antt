-- Draining in one entry: what the calls of the core do in a row, and the events with which the caller leaves.
use Rattle.std.specs.Prelude.{◌≡◌, ℕ, List, [], ◌∷◌, ◌++◌, map, length, drop, Some, Result, Ok, Err}
use Rattle.flow_law.specs.declared.fault.FlowFault.{FlowFault}
use Rattle.flow_law.specs.declared.history.Said.{Said}
use Rattle.flow_law.specs.declared.outcome.Next.{Next}
use Rattle.flow_law.specs.declared.outcome.Next.TheVariants as next
use Rattle.flow_law.specs.declared.outcome.Drained.{Drained}
use Rattle.flow_law.specs.declared.outcome.Drained.TheVariants as drained
use Rattle.flow_law.specs.flow.Draining.{TakesBy}
use Rattle.flow_law.specs.history.Growth.{adds}
use Rattle.flow_law.specs.history.History.{Kind, replied}
use Rattle.flow_law.specs.history.Promise.{said}
use Rattle.flow_law.specs.flow.Standing.{Documents}
use Rattle.flow_law.specs.history.Tokens.{knowing}
use Rattle.flow_gate.specs.Tokens.{SeatState, idle_seat}

module _ {T S C R : Type 0} (kind : Kind T S C R) (number : ℕ) where
  -- one `next` of a core of this kind
  abbrev pub CoreNexts : {K : Type 0} → (K → S → Type 0) → K → Result (Next T) FlowFault → K → Type 0
  CoreNexts StandsAs old answer new = Documents kind StandsAs old (kind.take_next number) (replied kind kind.received answer) new

  -- the calls that gave the values
  abbrev pub said_values : List T → List (Said C R)
  said_values values = map (λ v. said (kind.take_next number) (kind.received (next.Value v))) values

  -- the call that ended the drain, if one did
  abbrev pub said_end : Result Drained FlowFault → List (Said C R)
  said_end (Ok drained.Most) = []
  said_end (Ok drained.Empty) = said (kind.take_next number) (kind.received next.Empty) ∷ []
  said_end (Ok drained.Gone) = said (kind.take_next number) (kind.received next.Gone) ∷ []
  said_end (Err fault) = said (kind.take_next number) (kind.refused fault) ∷ []

  -- the calls that gave the values by which the list has grown, and the call that ended the drain
  abbrev pub said_since : List T → List T → Result Drained FlowFault → List (Said C R)
  said_since old new result = said_values (drop (length old) new) ++ said_end result

  -- A caller that was inside took these values and left.
  pub record TakesInside {K : Type 0} (StandsAs : K → S → Type 0) (most : ℕ) (before : SeatState K (Said C R)) (old_list : List T) (result : Result Drained FlowFault) (new_list : List T) (after : SeatState K (Said C R)) : Type 0 where
    pub state : K
    pub held : before.held ≡ Some state
    pub core : K
    pub takes : TakesBy (CoreNexts StandsAs) most state old_list result new_list core
    pub left : after ≡ idle_seat (knowing before.token (adds (said_values takes.values ++ said_end result) before.token.knows))
