-- Draining: repeated calls of `next`, whose values are appended to a list. `Nexts` is what one `next` does, as its contract says.
-- Begin with `DrainsBy`: the values are what that many calls of `next` in a row gave, and at most one more call, which gave no value,
-- came after them.
use Rattle.std.specs.Prelude.{◌≡◌, ◌↔◌, ◌⊎◌, ℕ, ◌≤◌, List, ◌++◌, length, Vec, Result, Ok, Err}
use Rattle.std.specs.List.{FoldsTo}
use Rattle.std.specs.Vec.{vec_len, vec_capacity}
use Rattle.flow_law.specs.declared.fault.FlowFault.{FlowFault}
use Rattle.flow_law.specs.declared.fault.FlowFault.TheVariants.{OutOfMemory}
use Rattle.flow_law.specs.declared.outcome.Next.{Next}
use Rattle.flow_law.specs.declared.outcome.Next.TheVariants as next
use Rattle.flow_law.specs.declared.outcome.Drained.{Drained}
use Rattle.flow_law.specs.declared.outcome.Drained.TheVariants as drained

module _ {X T : Type 0} (Nexts : X → Result (Next T) FlowFault → X → Type 0) where
  -- calls in a row gave these values, in order
  abbrev pub NextsGive : X → List T → X → Type 0
  NextsGive = FoldsTo (λ before value after. Nexts before (Ok (next.Value value)) after)

  -- how a drain ended: it had taken as many values as asked for, or one more call gave no value
  abbrev pub EndsByCall : X → Result Drained FlowFault → X → Type 0
  EndsByCall before (Ok drained.Most) after = before ≡ after
  EndsByCall before (Ok drained.Empty) after = Nexts before (Ok next.Empty) after
  EndsByCall before (Ok drained.Gone) after = Nexts before (Ok next.Gone) after
  EndsByCall before (Err fault) after = Nexts before (Err fault) after

  -- how a drain ended: as in `EndsByCall`, or because the list had no room
  abbrev pub EndsBy : X → Result Drained FlowFault → X → Type 0
  EndsBy before (Ok end) after = EndsByCall before (Ok end) after
  EndsBy before (Err fault) after = EndsByCall before (Err fault) after ⊎ ((fault ≡ OutOfMemory) × (before ≡ after))

  -- a drain took at most `most` values; `Ends` says how it ended
  pub record TakesAtMost (Ends : X → Result Drained FlowFault → X → Type 0) (most : ℕ) (old : X) (old_list : List T) (result : Result Drained FlowFault) (new_list : List T) (new : X) : Type 0 where
    pub values : List T
    -- the state after the last of them
    pub last : X
    pub taken : NextsGive old values last
    pub ended : Ends last result new
    pub appended : new_list ≡ old_list ++ values
    pub within : length values ≤ most
    pub enough : (result ≡ Ok drained.Most) ↔ (length values ≡ most)

  -- a drain into a list that may have no room
  abbrev pub DrainsBy : ℕ → X → List T → Result Drained FlowFault → List T → X → Type 0
  DrainsBy = TakesAtMost EndsBy

  -- a drain into a list that has room for all
  abbrev pub TakesBy : ℕ → X → List T → Result Drained FlowFault → List T → X → Type 0
  TakesBy = TakesAtMost EndsByCall

-- the list has no room for one more value
abbrev pub IsFull : {T A : Type 0} → Vec T A → Type 0
IsFull list = vec_capacity list ≤ vec_len list
