-- Laws that hold of every legal history of a shared flow: `LawNoIdleQueue` and `LawDelivered`.
use Rattle.std.specs.Prelude.{◌≡◌, ◌≢◌, ℕ, ◌<◌, ◌≤◌, false, List, [], ◌∷◌, ◌++◌, map, drop, Some}
use Rattle.flow_law.specs.declared.config.Config.{Config}
use Rattle.flow_law.specs.declared.config.Overflow.TheVariants.{DropOldest}
use Rattle.flow_law.specs.flow.SharedFlow.{SharedFlowState, is_blocked, capacity, values, position_of, own_of}
use Rattle.flow_law.specs.flow.SharedHistory.{History, IsLegalShared, state_after}
use Rattle.flow_law.specs.flow.Mailbox.{taken, own, box, delivered, received, began}

-- the numbers rise, the first one above the floor, and none is above the top
abbrev pub RisesTo : ℕ → List ℕ → ℕ → Type 0
RisesTo floor [] top = floor ≤ top
RisesTo floor (n ∷ ns) top = (floor < n) × RisesTo n ns top

module _ {T : Type 0} where
  -- no emission waits in the queue if the flow is not blocked
  abbrev pub NoIdleQueue : SharedFlowState T → Type 0
  NoIdleQueue s = is_blocked s ≡ false → s.queue ≡ []

  -- the numbers of the emitted values, then those of the queued ones
  abbrev pub numbers : SharedFlowState T → List ℕ
  numbers s = map (λ e. e.number) (s.emitted ++ s.queue)

  -- What u took is what `next` gave it. What is left of its own values is what the flow keeps for it. What it has still to take of
  -- the flow's values are the emitted values from its position on.
  pub record Delivers (u : ℕ) (config : Config) (h : History T) : Type 0 where
    pub replies : taken u config h ≡ received u h
    pub own_left : (p : ℕ) → position_of u (state_after config h).subscribers ≡ Some p → own_of u (state_after config h).subscribers ≡ own u config h
    pub rest : (p : ℕ) → position_of u (state_after config h).subscribers ≡ Some p → drop p (values (state_after config h)) ≡ box u config h
    -- its own values come first; then, unless the flow drops the oldest or has no buffer, it misses no emitted value
    pub whole : config.overflow ≢ DropOldest → 0 < capacity (state_after config h)
        → (p : ℕ) → position_of u (state_after config h).subscribers ≡ Some p
        → delivered u config h
        ≡ (began u config h).first ++ drop (began u config h).entry (values (state_after config h))
    -- so each emitter's values keep their order
    pub in_order : RisesTo 0 (numbers (state_after config h)) (state_after config h).issued

-- the law: after every legal history, no emission waits in the queue of a flow that is not blocked
abbrev pub LawNoIdleQueue : Type 0 → Type 0
LawNoIdleQueue T = (config : Config) (h : History T) → IsLegalShared config h → NoIdleQueue (state_after config h)

-- the law: after every legal history, each subscriber was given what `Delivers` says
abbrev pub LawDelivered : Type 0 → Type 0
LawDelivered T = (config : Config) (h : History T) → IsLegalShared config h → (u : ℕ) → Delivers u config h
