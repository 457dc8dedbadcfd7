-- Which calls of a state flow may be swapped. Begin with `are_state_twins`. No public clause cites this module.
--   caller 0    |----subscribe----|            |--next: 1--|
--   caller 1      |--subscribe--|                              others only see how many are subscribed
use Rattle.std.specs.Prelude.{◌≡◌, ◌⊎◌, ℕ, Bool, true, false, ◌==◌, ◌&&◌, ◌||◌, Option, Some, None, slice_get}
use Rattle.flow_check.specs.declared.state_calls.StateOperation.{StateOperation}
use Rattle.flow_check.specs.declared.state_calls.StateOperation.TheVariants as operation
use Rattle.flow_check.specs.declared.state_calls.StateAnswer.{StateAnswer}
use Rattle.flow_check.specs.declared.state_calls.StateAnswer.TheVariants as answer
use Rattle.flow_check.specs.declared.state_calls.StateEntry.{StateEntry}
use Rattle.flow_check.specs.StateMachine.{StateKept, with_reader}

-- both calls set the same value
abbrev pub same_write_by : StateOperation → Option StateAnswer → StateOperation → Option StateAnswer → Bool
same_write_by (operation.Set v) (Some answer.Done) (operation.Set w) (Some answer.Done) = v == w
same_write_by _ _ _ _ = false

abbrev pub is_same_write : StateEntry → StateEntry → Bool
is_same_write c d = same_write_by c.operation c.answer d.operation d.answer

-- both calls subscribe
abbrev pub subscribe_by : StateOperation → Option StateAnswer → StateOperation → Option StateAnswer → Bool
subscribe_by operation.Subscribe (Some answer.Done) operation.Subscribe (Some answer.Done) = true
subscribe_by _ _ _ _ = false

abbrev pub both_subscribe : StateEntry → StateEntry → Bool
both_subscribe c d = subscribe_by c.operation c.answer d.operation d.answer

-- what is kept for a caller says that it is not subscribed
abbrev pub out_in : Option (Option (Option ℕ)) → Bool
out_in None = false
out_in (Some None) = true
out_in (Some (Some last)) = false

-- a caller is not subscribed
abbrev pub is_out : ℕ → StateKept → Bool
is_out caller s = out_in (slice_get s.readers caller)

abbrev pub are_out : ℕ → ℕ → StateKept → Bool
are_out caller other s = is_out caller s && is_out other s

-- the caller's call c and the other caller's call d may be swapped in the state s
abbrev pub are_state_twins : ℕ → ℕ → StateEntry → StateEntry → StateKept → Bool
are_state_twins caller other c d s = is_same_write c d || (both_subscribe c d && are_out caller other s)

-- the caller has subscribed in the state s, and in the state t the other one instead
abbrev pub SubscribedInstead : ℕ → ℕ → StateKept → StateKept → Type 0
SubscribedInstead caller other s t = (v : StateKept) × (slice_get v.readers caller ≡ Some None) × (slice_get v.readers other ≡ Some None)
    × (s ≡ with_reader caller (Some None) v) × (t ≡ with_reader other (Some None) v)

-- t is the state s, but that in it the other caller's call d has happened, and in s the caller's call c
abbrev pub IsStateSwapped : ℕ → ℕ → StateEntry → StateEntry → StateKept → StateKept → Type 0
IsStateSwapped caller other c d s t = ((is_same_write c d ≡ true) × (t ≡ s)) ⊎ ((both_subscribe c d ≡ true) × SubscribedInstead caller other s t)
