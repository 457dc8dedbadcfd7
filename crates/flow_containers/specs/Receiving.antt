-- What a subscriber receives next. No public clause cites this module.
use Rattle.std.specs.Prelude.{◌≡◌, ℕ, ◌+◌, ◌-◌, ◌≤◌, Bool, not, ◌&&◌, ◌==◌, List, [], ◌∷◌, ◌++◌, length, take, drop, Option, Some, None, Result, Ok, Err}
use Rattle.std.specs.List.{slice_get, list_any}
use Rattle.flow_law.specs.declared.fault.FlowFault.{FlowFault}
use Rattle.flow_law.specs.declared.fault.FlowFault.TheVariants.{OutOfMemory}
use Rattle.flow_law.specs.declared.states.Subscriber.{Subscriber}
use Rattle.flow_law.specs.flow.SharedFlow.{position_of, own_of, with_own, move_to}
use Rattle.flow_containers.specs.declared.subscribers.receive.Received.{Received}
use Rattle.flow_containers.specs.declared.subscribers.receive.Received.TheVariants.{Gone, Own, Emitted, Empty}
use Rattle.flow_containers.specs.Subscribers.{Standing}

module _ {T : Type 0} where
  -- the subscriber has no own values left and is at this position, where the kept values have this value, or none yet
  abbrev pub StandsAt : ℕ → List T → Standing T → ℕ → Option T → Type 0
  StandsAt number kept s position value =
      (own_of number s.list ≡ []) × (position_of number s.list ≡ Some position)
      × (slice_get kept (position - (s.emitted - length kept)) ≡ value)

  -- the position is the first one that is held, and none of these subscribers is at it
  abbrev pub was_last_at : ℕ → ℕ → List (Subscriber T) → Bool
  was_last_at first position us = (position == first) && not (list_any (λ u. u.position == position) us)

  -- a subscriber receives its first own value, or else the value at its position, which it then passes; a refused copy changes nothing
  abbrev pub SubscriberReceives : ℕ → List T → Standing T → Result (Received T) FlowFault → Standing T → Type 0
  SubscriberReceives number kept old (Ok Gone) new = (own_of number old.list ≡ []) × (position_of number old.list ≡ None) × (new ≡ old)
  SubscriberReceives number kept old (Ok (Own value)) new =
      (own : List T) × (own_of number old.list ≡ value ∷ own) × (new ≡ record old { list = with_own number own old.list })
  SubscriberReceives number kept old (Ok Empty) new = (position : ℕ) × StandsAt number kept old position None × (new ≡ old)
  SubscriberReceives number kept old (Ok (Emitted value was_last)) new =
      (position : ℕ) × StandsAt number kept old position (Some value) × (new ≡ record old { list = move_to number (position + 1) old.list })
      × (was_last ≡ was_last_at (old.emitted - length kept) position new.list)
  SubscriberReceives number kept old (Err fault) new =
      (position : ℕ) × (value : T) × StandsAt number kept old position (Some value) × (fault ≡ OutOfMemory) × (new ≡ old)

  -- a subscriber without own values takes `count` values into the list, in order from its position, and passes them
  abbrev pub TakesSome : ℕ → List T → Standing T → List T → ℕ → List T → Standing T → Type 0
  TakesSome number kept old list count longer new =
      (position : ℕ) × (own_of number old.list ≡ []) × (position_of number old.list ≡ Some position) × (position + count ≤ old.emitted)
      × (longer ≡ list ++ take count (drop (position - (old.emitted - length kept)) kept))
      × (new ≡ record old { list = move_to number (position + count) old.list })
