-- A state flow beside a shared flow that keeps one value and drops the oldest.
use Rattle.std.specs.Prelude.{◌≡◌, ◌≢◌, ◌⊎◌, ℕ, ◌==◌, ◌<◌, true, if◌then◌else◌, [], ◌∷◌, length, Option, Some, None, Result, Ok, Err}
use Rattle.std.specs.Option.{option_map_or}
use Rattle.flow_law.specs.declared.config.Config.{Config}
use Rattle.flow_law.specs.declared.config.Overflow.TheVariants.{DropOldest}
use Rattle.flow_law.specs.declared.fault.FlowFault.{FlowFault}
use Rattle.flow_law.specs.declared.outcome.Next.{Next}
use Rattle.flow_law.specs.declared.outcome.Next.TheVariants.{Value, Empty, Gone}
use Rattle.flow_law.specs.declared.call.StateCall.{StateCall}
use Rattle.flow_law.specs.declared.call.StateCall.TheVariants.{GetValue, Set, TryEmit, CompareAndSet, Subscribe, TakeNext, Unsubscribe, ReplayCache}
use Rattle.flow_law.specs.declared.call.StateReply.{StateReply}
use Rattle.flow_law.specs.declared.call.StateReply.TheVariants.{Got, Answered, Subscribed, Received, Cached}
use Rattle.flow_law.specs.flow.SharedFlow.{SharedFlowState, first_state, cache}
use Rattle.flow_law.specs.flow.SharedStep as flow
use Rattle.flow_law.specs.flow.StateFlow.{StateHistory, first_state_flow, IsLegalState}

-- the configuration that keeps only the last value, with this limit
abbrev pub newest_only : ℕ → Config
newest_only limit = record { replay = 1; extra = 0; overflow = DropOldest; limit = limit }

-- a shared flow that is played beside a state flow, with one subscriber
pub record Beside (T : Type 0) : Type 0 where
  pub shared : SharedFlowState T
  -- the number of the one subscriber, once it subscribed
  pub number : Option ℕ
  -- the last value that its subscriber got
  pub last : Option T

-- the number of a new subscriber, if it was not refused
abbrev pub given_number : Result ℕ FlowFault → Option ℕ
given_number (Ok number) = Some number
given_number (Err fault) = None

module _ {T : Type 0} where
  -- the shared flow after it emitted the first value of the state flow
  abbrev pub beside : ℕ → T → Beside T
  beside limit first = record { shared = (flow.emit first (first_state (newest_only limit))).after; number = None; last = None }

  -- the shared flow emits what the state flow sets
  abbrev pub emitting : T → Beside T → Beside T
  emitting x m = record m { shared = (flow.emit x m.shared).after }

  -- the watched subscriber subscribes to the shared flow, too
  abbrev pub subscribing : Beside T → Beside T
  subscribing m = record { shared = (flow.subscribe [] m.shared).after; number = given_number (flow.subscribe [] m.shared).reply; last = None }

  -- the last value that the subscriber got, after this answer of the shared flow
  abbrev pub passed_on : Result (Next T) FlowFault → Option T → Option T
  passed_on (Ok (Value v)) last = Some v
  passed_on _ last = last

  -- the watched subscriber asks the shared flow for its next value
  abbrev pub reading : ℕ → Beside T → Beside T
  reading k m = record m { shared = (flow.next k m.shared).after; last = passed_on (flow.next k m.shared).reply m.last }

  -- the watched subscriber leaves the shared flow
  abbrev pub leaving : ℕ → Beside T → Beside T
  leaving k m = record m { shared = (flow.unsubscribe k m.shared).after }

  -- what the shared flow does at an event of the state flow: it emits each value that is set, and its subscriber makes u's calls
  abbrev pub follows : ℕ → Beside T → StateCall T → StateReply T → Beside T
  follows u m (Set x) r = emitting x m
  follows u m (TryEmit x) r = emitting x m
  follows u m (CompareAndSet a b) (Answered true) = emitting b m
  follows u m (Subscribe name) (Subscribed n) = if n == u then subscribing m else m
  follows u m (TakeNext n) (Received r) = if n == u then option_map_or (λ k. reading k m) m.number m else m
  follows u m (Unsubscribe n) (Answered r) = if n == u then option_map_or (λ k. leaving k m) m.number m else m
  follows u m _ _ = m

  -- what u gets from the state flow if the shared flow answers this: Empty for a value that is the same as the last one
  abbrev pub Conflated : Option T → Result (Next T) FlowFault → Next T → Type 0
  Conflated last (Ok (Value v)) r = ((last ≡ Some v) × (r ≡ Empty)) ⊎ ((last ≢ Some v) × (r ≡ Value v))
  Conflated last (Ok Empty) r = r ≡ Empty
  Conflated last (Ok Gone) r = r ≡ Gone
  Conflated last (Err fault) r = ⊥

  -- a reply of the state flow agrees with the shared flow: its value is the shared flow's cache, and u gets what `Conflated` says
  abbrev pub Agrees : ℕ → Beside T → StateCall T → StateReply T → Type 0
  Agrees u m GetValue (Got v) = cache m.shared ≡ v ∷ []
  Agrees u m ReplayCache (Cached vs) = cache m.shared ≡ vs
  Agrees u m (TakeNext n) (Received r) = n ≡ u → (k : ℕ) → m.number ≡ Some k → Conflated m.last (flow.next k m.shared).reply r
  Agrees u m _ _ = Unit {0}

  -- each event of the history agrees with the shared flow beside it
  abbrev pub AgreeAll : ℕ → Beside T → StateHistory T → Type 0
  AgreeAll u m [] = Unit {0}
  AgreeAll u m (e ∷ es) = Agrees u m e.what.call e.what.reply × AgreeAll u (follows u m e.what.call e.what.reply) es

  -- Each event of a state flow that began with this value agrees with the shared flow beside each subscriber. The shared
  -- flow's limit is so high that it is not reached.
  abbrev pub Conflates : T → StateHistory T → Type 0
  Conflates first h = (u unreached : ℕ) → length h < unreached → AgreeAll u (beside unreached first) h

-- the law: `Conflates` holds of every legal history of a state flow
abbrev pub LawConflated : Type 0 → Type 0
LawConflated T = (limit : ℕ) (first : T) (h : StateHistory T) → IsLegalState (first_state_flow limit first) h → Conflates first h
