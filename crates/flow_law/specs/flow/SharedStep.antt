-- Each call of a documented shared flow: its reply and the state after it. `emit` and `try_emit` are in EmitRule.
-- Begin with `settle`, the last step of every call that makes room.
use Rattle.std.specs.Prelude.{ℕ, ◌+◌, Bool, not, ◌||◌, ◌==◌, if◌then◌else◌, List, [], ◌∷◌, ◌++◌, length, map, filter, slice_get, is_some}
use Rattle.std.specs.Option.{option_map_or}
use Rattle.flow_law.specs.declared.outcome.Next.{Next}
use Rattle.flow_law.specs.declared.outcome.Next.TheVariants.{Value, Empty, Gone}
use Rattle.flow_law.specs.flow.SharedFlow.{Numbered, SharedFlowState, issuing, is_blocked, cache, entry, values, is_queued, is_offered_as, position_of, stand_at, move_to, without, own_of, with_own}
pub use Rattle.flow_law.specs.flow.SharedFlow.{Replied, answer}
pub use Rattle.flow_law.specs.flow.EmitRule.{emit, try_emit}

module _ {T : Type 0} where
  -- queued values are emitted in order until the flow is blocked
  abbrev pub admit : SharedFlowState T → List (Numbered T) → SharedFlowState T
  admit s [] = record s { queue = [] }
  admit s (e ∷ queue) = if is_blocked s then record s { queue = e ∷ queue } else admit (record s { emitted = s.emitted ++ e ∷ [] }) queue

  -- queued values are emitted while there is room
  abbrev pub settle : SharedFlowState T → SharedFlowState T
  settle s = admit s s.queue

  -- ---- poll and cancel

  -- the emitter of this number waits: its value is queued or offered
  abbrev pub is_waiting : ℕ → SharedFlowState T → Bool
  is_waiting e s = is_queued e s || is_offered_as e s

  -- `poll`: whether the emitter of this number waits
  abbrev pub poll : ℕ → SharedFlowState T → Replied Bool T
  poll e s = answer (is_waiting e s) s

  -- the emission is withdrawn: subscribers that have not received an offered value miss it, and a queued value is dropped
  abbrev pub withdraw : ℕ → SharedFlowState T → SharedFlowState T
  withdraw e s =
      if is_offered_as e s then record s { subscribers = map (stand_at (length s.emitted)) s.subscribers }
      else record s { queue = filter (λ q. not (q.number == e)) s.queue }

  -- `cancel`: whether the emitter waited, and the state after its emission is withdrawn
  abbrev pub cancel : ℕ → SharedFlowState T → Replied Bool T
  cancel e s = answer (is_waiting e s) (settle (withdraw e s))

  -- ---- subscribers

  -- a new subscriber with these own first values takes the next number, and the position `entry`
  abbrev pub enroll : List T → SharedFlowState T → SharedFlowState T
  enroll first s = record s {
    subscribers = s.subscribers ++ record { number = s.issued + 1; own = first; position = entry s } ∷ [];
    issued = s.issued + 1;
  }

  -- `subscribe_with` these first values; `subscribe` if there are none
  abbrev pub subscribe : List T → SharedFlowState T → Replied ℕ T
  subscribe first s = issuing s (answer (s.issued + 1) (enroll first s))

  -- the state after the subscriber of this number moved to this position
  abbrev pub advance : ℕ → ℕ → SharedFlowState T → SharedFlowState T
  advance number position s = record s { subscribers = move_to number position s.subscribers }

  -- the value at this position, which the subscriber passes; Empty if there is none
  abbrev pub read : ℕ → ℕ → SharedFlowState T → Replied (Next T) T
  read number position s =
      option_map_or (λ value. answer (Value value) (settle (advance number (position + 1) s)))
      (slice_get (values s) position) (answer Empty s)

  -- `next` of a subscriber without own values: the value at its position, or `Gone` if there is no such subscriber
  abbrev pub next_emitted : ℕ → SharedFlowState T → Replied (Next T) T
  next_emitted number s = option_map_or (λ position. read number position s) (position_of number s.subscribers) (answer Gone s)

  -- the state with these own first values left to the subscriber of this number
  abbrev pub keep_own : ℕ → List T → SharedFlowState T → SharedFlowState T
  keep_own number own s = record s { subscribers = with_own number own s.subscribers }

  -- `next` of a subscriber with these own values left: the first of them, or an emitted value if there are none
  abbrev pub next_from : ℕ → List T → SharedFlowState T → Replied (Next T) T
  next_from number [] s = next_emitted number s
  next_from number (value ∷ own) s = answer (Value value) (keep_own number own s)

  -- `next`
  abbrev pub next : ℕ → SharedFlowState T → Replied (Next T) T
  next number s = next_from number (own_of number s.subscribers) s

  -- the state without the subscriber of this number
  abbrev pub leave : ℕ → SharedFlowState T → SharedFlowState T
  leave number s = record s { subscribers = without number s.subscribers }

  -- `unsubscribe`: whether there was such a subscriber
  abbrev pub unsubscribe : ℕ → SharedFlowState T → Replied Bool T
  unsubscribe number s = answer (is_some (position_of number s.subscribers)) (settle (leave number s))

  -- ---- the cache and the count

  -- `replay_cache`
  abbrev pub replay_cache : SharedFlowState T → Replied (List T) T
  replay_cache s = answer (cache s) s

  -- the state with an empty replay cache: it begins after all values emitted so far
  abbrev pub forget : SharedFlowState T → SharedFlowState T
  forget s = record s { reset_mark = length s.emitted }

  -- `reset_replay_cache`
  abbrev pub reset_replay_cache : SharedFlowState T → Replied (Unit {0}) T
  reset_replay_cache s = answer tt (forget s)

  -- `subscription_count`
  abbrev pub subscription_count : SharedFlowState T → Replied ℕ T
  subscription_count s = answer (length s.subscribers) s
