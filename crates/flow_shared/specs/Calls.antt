-- What each call of a flow for several threads does, for any kind of flow. Begin with `Calls`: one word for every call that is
-- an event. `flow` is the flow: which one, and the state that it began with.
use Rattle.std.specs.Prelude.{◌≡◌, ◌≢◌, ℕ, List, ◌∷◌, [], ◌++◌, length, true, Some, Result, Ok, Err}
use Rattle.atomic_table.specs.Seated.{TableId}
use Rattle.flow_law.specs.declared.fault.FlowFault.{FlowFault}
use Rattle.flow_law.specs.declared.history.HistoryEvent.{HistoryEvent}
use Rattle.flow_law.specs.declared.history.Said.{Said}
use Rattle.flow_law.specs.declared.fault.FlowFault.TheVariants.{Busy}
use Rattle.flow_law.specs.declared.outcome.Next.{Next}
use Rattle.flow_law.specs.declared.outcome.Next.TheVariants.{Gone}
use Rattle.flow_law.specs.history.Growth.{Fits, adds, event}
use Rattle.flow_law.specs.history.History.{Kind, IsHistory}
use Rattle.flow_law.specs.history.Promise.{said, CallsIn, CallsAtOnceIn}
use Rattle.flow_law.specs.flow.Standing.{StandsForHistory}
use Rattle.flow_law.specs.history.Tokens.{NextsIn, UnsubscribesIn, CountsIn, MeetsIn, SubscribesIn, NextsNowIn, CountsNowIn, IsBusy}
use Rattle.flow_law.specs.history.Tokens as flows
use Rattle.flow_gate.specs.Tokens.{GateToken, GateOrigin, SeatState, idle_seat}

-- a subscription to a flow, or an emission
abbrev pub GateNumbered : Type 0 → Type 0
GateNumbered = flows.NumberedToken TableId

module _ {T S C R : Type 0} (kind : Kind T S C R) (flow : GateOrigin S) where
  -- the call adds one event, with this reply, to what the token has seen
  abbrev pub Calls : GateToken (Said C R) → C → R → GateToken (Said C R) → Type 0
  Calls = CallsIn kind flow.first

  -- `Calls`, and no exchange was lost
  abbrev pub CallsAtOnce : GateToken (Said C R) → C → R → GateToken (Said C R) → Type 0
  CallsAtOnce = CallsAtOnceIn kind flow.first

  -- two tokens meet: both have then seen the same history, which begins with what each had seen
  abbrev pub Meets : GateToken (Said C R) → GateToken (Said C R) → GateToken (Said C R) → GateToken (Said C R) → Type 0
  Meets = MeetsIn kind flow.first

  -- a `subscribe` with the subscription's name; if it was not refused, the subscription's token is then made through the caller's
  abbrev pub Subscribes : (List ℕ → C) → GateToken (Said C R) → Result (GateNumbered (Said C R)) FlowFault → GateToken (Said C R) → Type 0
  Subscribes = SubscribesIn kind flow.first

  -- a `next`
  abbrev pub Nexts : GateNumbered (Said C R) → Result (Next T) FlowFault → GateNumbered (Said C R) → Type 0
  Nexts = NextsIn kind flow.first

  -- a `next`, after which the subscription has the same number
  abbrev pub NextsOf : GateNumbered (Said C R) → Result (Next T) FlowFault → GateNumbered (Said C R) → Type 0
  NextsOf old result new = Nexts old result new × (new.number ≡ old.number)

  -- an `unsubscribe`
  abbrev pub Unsubscribes : GateNumbered (Said C R) → GateToken (Said C R) → Type 0
  Unsubscribes = UnsubscribesIn kind flow.first

  -- a count of the subscribers
  abbrev pub Counts : GateToken (Said C R) → ℕ → GateToken (Said C R) → Type 0
  Counts = CountsIn kind flow.first

  -- a `next` that does not wait
  abbrev pub NextsNow : GateNumbered (Said C R) → Result (Next T) FlowFault → GateNumbered (Said C R) → Type 0
  NextsNow = NextsNowIn kind flow.first

  -- the subscription was active and has ended, and no exchange was lost; or another caller was inside, and the subscription is returned
  abbrev pub UnsubscribesNow : GateNumbered (Said C R) → Result (GateToken (Said C R)) (GateNumbered (Said C R)) → Type 0
  UnsubscribesNow old (Ok after) = CallsAtOnce old.token (kind.unsubscribe old.number) (kind.tested true) after
  UnsubscribesNow old (Err back) = (back.number ≡ old.number) × IsBusy old.token back.token

  -- a count that does not wait
  abbrev pub CountsNow : GateToken (Said C R) → Result ℕ FlowFault → GateToken (Said C R) → Type 0
  CountsNow = CountsNowIn kind flow.first

  -- The core stands for the state after a history of the flow: what the token had seen, followed by events of other callers, within
  -- the token's rule of names.
  abbrev pub ClosesAs : {K : Type 0} → (K → S → Type 0) → GateToken (Said C R) → K → Type 0
  ClosesAs StandsAs t core = (history : List (HistoryEvent (Said C R))) × StandsForHistory kind StandsAs flow.first core history × Fits history t.knows

-- ---- calls that wait, or do not

-- `at_once` says that the call does not wait; if it waits, it is never Busy
module _ {T S C R : Type 0} (kind : Kind T S C R) (flow : GateOrigin S) (at_once : Type 0) where
  -- `Calls`; a call that does not wait lost no exchange
  abbrev pub CallsBy : GateToken (Said C R) → C → R → GateToken (Said C R) → Type 0
  CallsBy before call reply after = Calls kind flow before call reply after × (at_once → after.knows.lost ≡ before.knows.lost)

  -- a call that does not wait found another caller inside: it counted one lost exchange, and nothing else has changed
  abbrev pub FindsBusy : GateToken (Said C R) → GateToken (Said C R) → Type 0
  FindsBusy before after = at_once × IsBusy before after

  -- a `next`
  abbrev pub NextsBy : GateNumbered (Said C R) → Result (Next T) FlowFault → GateNumbered (Said C R) → Type 0
  NextsBy old (Ok next) new = (next ≢ Gone) × (new.number ≡ old.number) × CallsBy old.token (kind.take_next old.number) (kind.received next) new.token
  NextsBy old (Err Busy) new = (new.number ≡ old.number) × FindsBusy old.token new.token
  NextsBy old (Err fault) new = (new.number ≡ old.number) × CallsBy old.token (kind.take_next old.number) (kind.refused fault) new.token

-- ---- a caller inside

module _ {T S C R : Type 0} (kind : Kind T S C R) where
  -- the caller of this seat is inside, and holds a state that stands for what its token has seen
  abbrev pub HoldsFor : {K : Type 0} → (K → S → Type 0) → S → SeatState K (Said C R) → Type 0
  HoldsFor {K} StandsAs first seat = (state : K) × (seat.held ≡ Some state) × StandsForHistory kind StandsAs first state seat.token.knows.seen

module _ {T S C R : Type 0} (kind : Kind T S C R) (first : S) where
  -- a caller that was inside made this call, got this reply and left
  abbrev pub SaysIn : {K : Type 0} → GateToken (Said C R) → C → R → SeatState K (Said C R) → Type 0
  SaysIn before call reply after =
      (after ≡ idle_seat (flows.knowing before (adds (said call reply ∷ []) before.knows))) × IsHistory kind first (before.knows.seen ++ event before.knows.name (length before.knows.seen) (said call reply) ∷ [])
