-- The state of the documented shared flow (`MutableSharedFlow`) of one thread, and what follows from it.
--   emitted    v1  v2  v3  v4  v5      every value ever emitted, never cut
--   index      0   1   2   3   4   5
--                  ^       ^       ^
--                  |       |       a subscriber that has received all (lag 0)
--                  |       where the cache begins, with replay 2
--                  a slow subscriber (lag 4): at lag `window` the flow is blocked
--   queue      v6  v7                  values whose emitters wait, not emitted yet
--   own        o1  o2                  a subscriber's own first values, which it receives before any emitted one
-- Begin with `is_blocked`, `cache_start` and `entry`. What a call does is in EmitRule and SharedStep.
use Rattle.std.specs.Prelude.{◌≡◌, ◌⊎◌, ℕ, ◌+◌, ◌-◌, max, Bool, true, false, not, ◌&&◌, ◌==◌, nat_lt, nat_le, if◌then◌else◌, List, [], ◌∷◌, length, drop, map, filter, slice_get, Option, Some, None, Result, Ok, Err}
use Rattle.std.specs.List.{list_any}
use Rattle.std.specs.Option.{option_map, option_map_or}
use Rattle.flow_law.specs.declared.config.Config.{Config}
use Rattle.flow_law.specs.declared.config.Overflow.{Overflow}
use Rattle.flow_law.specs.declared.config.Overflow.TheVariants.{Suspend, DropOldest, DropLatest}
use Rattle.flow_law.specs.declared.fault.FlowFault.{FlowFault}
use Rattle.flow_law.specs.declared.fault.FlowFault.TheVariants.{OutOfMemory, TooLarge, NeedsBuffer, Exhausted}
pub use Rattle.flow_law.specs.declared.states.Numbered.{Numbered}
pub use Rattle.flow_law.specs.declared.states.Subscriber.{Subscriber}
pub use Rattle.flow_law.specs.declared.states.SharedFlowState.{SharedFlowState}

-- ---- the state

-- the state before any call
abbrev pub first_state : {T : Type 0} → Config → SharedFlowState T
first_state config = record { config = config; emitted = []; reset_mark = 0; queue = []; subscribers = []; issued = 0 }

-- ---- configurations

-- the most that `replay + extra` may be
abbrev pub largest_capacity : ℕ
largest_capacity = 65536

-- a flow with this strategy may have no buffer: only one that suspends its emitters
abbrev pub needs_no_buffer : Overflow → Bool
needs_no_buffer Suspend = true
needs_no_buffer DropLatest = false
needs_no_buffer DropOldest = false

-- the fault of a configuration, if no flow can be made of it
abbrev pub config_fault : Config → Option FlowFault
config_fault config =
    if nat_lt largest_capacity (config.replay + config.extra) then Some TooLarge
    else (if (config.replay + config.extra == 0) && not (needs_no_buffer config.overflow) then Some NeedsBuffer else None)

-- making a flow of this configuration may fail with this fault: the configuration's, or `OutOfMemory` if it has none
abbrev pub NoFlow : Config → FlowFault → Type 0
NoFlow config fault = (config_fault config ≡ Some fault) ⊎ ((config_fault config ≡ None) × (fault ≡ OutOfMemory))

-- ---- subscribers

module _ {T : Type 0} where
  -- the position of the subscriber of this number, if there is one
  abbrev pub position_of : ℕ → List (Subscriber T) → Option ℕ
  position_of number [] = None
  position_of number (u ∷ us) = if u.number == number then Some u.position else position_of number us

  -- the subscriber, moved to this position
  abbrev pub stand_at : ℕ → Subscriber T → Subscriber T
  stand_at position u = record u { position = position }

  -- the subscribers, with the one of this number moved to this position
  abbrev pub move_to : ℕ → ℕ → List (Subscriber T) → List (Subscriber T)
  move_to number position [] = []
  move_to number position (u ∷ us) = if u.number == number then stand_at position u ∷ us else u ∷ move_to number position us

  -- the subscribers, with each position below the floor raised to it
  abbrev pub raise_to : ℕ → List (Subscriber T) → List (Subscriber T)
  raise_to floor = map (λ u. stand_at (max u.position floor) u)

  -- the subscribers without the one of this number
  abbrev pub without : ℕ → List (Subscriber T) → List (Subscriber T)
  without number = filter (λ u. not (u.number == number))

  -- the own first values that the subscriber of this number has not received yet
  abbrev pub own_of : ℕ → List (Subscriber T) → List T
  own_of number [] = []
  own_of number (u ∷ us) = if u.number == number then u.own else own_of number us

  -- the subscriber, with these own first values left
  abbrev pub leave_own : List T → Subscriber T → Subscriber T
  leave_own own u = record u { own = own }

  -- the subscribers, with these own first values left to the one of this number; its position stays
  abbrev pub with_own : ℕ → List T → List (Subscriber T) → List (Subscriber T)
  with_own number own [] = []
  with_own number own (u ∷ us) = if u.number == number then leave_own own u ∷ us else u ∷ with_own number own us

  -- ---- lag

  -- how many values the flow's buffer may hold
  abbrev pub capacity : SharedFlowState T → ℕ
  capacity s = s.config.replay + s.config.extra

  -- the lag at which a subscriber blocks the flow
  abbrev pub window : SharedFlowState T → ℕ
  window s = max (capacity s) 1

  -- how many emitted values a subscriber has still to receive; its own first values do not count
  abbrev pub lag : SharedFlowState T → Subscriber T → ℕ
  lag s u = length s.emitted - u.position

  -- the lag of the subscriber of this number, if there is one
  abbrev pub lag_of : ℕ → SharedFlowState T → Option ℕ
  lag_of number s = option_map (λ position. length s.emitted - position) (position_of number s.subscribers)

  -- the flow is blocked: some subscriber still has a whole window to receive
  abbrev pub is_blocked : SharedFlowState T → Bool
  is_blocked s = list_any (λ u. nat_le (window s) (lag s u)) s.subscribers

  -- the flow offers its last value: it has no buffer, and some subscriber has not received that value
  abbrev pub is_offering : SharedFlowState T → Bool
  is_offering s = (capacity s == 0) && list_any (λ u. lag s u == 1) s.subscribers

  -- ---- cache and entry

  -- the position at which the replay cache begins
  abbrev pub cache_start : SharedFlowState T → ℕ
  cache_start s = max s.reset_mark (length s.emitted - s.config.replay)

  -- the emitted values without their numbers
  abbrev pub values : SharedFlowState T → List T
  values s = map (λ e. e.value) s.emitted

  -- the replay cache: the last `replay` values emitted since the last reset
  abbrev pub cache : SharedFlowState T → List T
  cache s = drop (cache_start s) (values s)

  -- the position of a new subscriber: that of the offered value if there is one, else the start of the cache
  abbrev pub entry : SharedFlowState T → ℕ
  entry s = if is_offering s then length s.emitted - 1 else cache_start s

  -- ---- numbers

  -- the number of the value that was emitted last, 0 before the first one; numbers begin at 1
  abbrev pub newest : SharedFlowState T → ℕ
  newest s = option_map_or (λ e. e.number) (slice_get s.emitted (length s.emitted - 1)) 0

  -- the flow offers the value of this number
  abbrev pub is_offered_as : ℕ → SharedFlowState T → Bool
  is_offered_as e s = is_offering s && (newest s == e)

  -- the value of this number waits in the queue
  abbrev pub is_queued : ℕ → SharedFlowState T → Bool
  is_queued e s = list_any (λ q. q.number == e) s.queue

  -- no number is left to issue
  abbrev pub is_exhausted : SharedFlowState T → Bool
  is_exhausted s = s.issued == s.config.limit

-- ---- what a call gives

-- the reply, and the state after the call
pub record Replied (R T : Type 0) : Type 0 where
  pub reply : Result R FlowFault
  pub after : SharedFlowState T

module _ {T : Type 0} where
  -- the answer of a call that is not refused
  abbrev pub answer : {R : Type 0} → R → SharedFlowState T → Replied R T
  answer reply after = record { reply = Ok reply; after = after }

  -- a call that would issue a number when none is left is refused and changes nothing
  abbrev pub issuing : {R : Type 0} → SharedFlowState T → Replied R T → Replied R T
  issuing s a = if is_exhausted s then record { reply = Err Exhausted; after = s } else a
