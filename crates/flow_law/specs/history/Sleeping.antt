-- When a caller may sleep until another caller's call gives it something. Begin with `FindsNothing` and
-- `first_waiting`.
use Rattle.std.specs.Prelude.{◌≡◌, ◌≢◌, ℕ, ◌≤◌, List, [], ◌∷◌, Bool, true, false, if◌then◌else◌, Option, Some, None, IsSomeAnd}
use Rattle.flow_law.specs.declared.outcome.Next.TheVariants.{Empty}
use Rattle.flow_law.specs.declared.touch.Touch.{Touch}
use Rattle.flow_law.specs.declared.touch.Touch.TheVariants as touch
use Rattle.flow_law.specs.history.History.{Kind}
use Rattle.flow_law.specs.flow.SharedFlow.{Numbered, SharedFlowState, is_offering, newest}

-- ---- emissions of a shared flow

module _ {T : Type 0} where
  -- the number of the first value in a queue
  abbrev pub first_queued : List (Numbered T) → Option ℕ
  first_queued [] = None
  first_queued (q ∷ queue) = Some q.number

  -- the first emission that waits: the one whose value is offered, or else the first in the queue
  abbrev pub first_waiting : SharedFlowState T → Option ℕ
  first_waiting s = if is_offering s then Some (newest s) else first_queued s.queue

-- ---- any kind of flow

module _ {T S C R : Type 0} (kind : Kind T S C R) where
  -- the subscriber of this number has nothing to receive: its `next` may answer Empty
  abbrev pub FindsNothing : ℕ → S → Type 0
  FindsNothing u s = kind.Replies s (kind.take_next u) (kind.received Empty)

  -- what a kind of flow defines, and is proved to have, so that its callers may sleep
  pub record Sleeping : Type 1 where
    -- a count of values that subscribers could have seen so far; it may stay 0 if each new value touches all subscribers
    pub mark : S → ℕ
    -- the emission of this number waits
    pub waits : ℕ → S → Bool
    -- the first emission that waits
    pub first_waiting : S → Option ℕ
    -- whom a call may wake, besides those of whom the mark and the first emission that waits tell
    pub touches : C → R → Touch
    -- the calls that every kind of flow has
    pub next_touches : (u : ℕ) (r : R) → touches (kind.take_next u) r ≡ touch.NoSleeper
    pub subscribe_touches : (name : List ℕ) (r : R) → touches (kind.subscribe name) r ≡ touch.NoSleeper
    pub unsubscribe_touches : (u : ℕ) (r : R) → touches (kind.unsubscribe u) r ≡ touch.Subscriber u
    pub count_touches : (r : R) → touches kind.count r ≡ touch.NoSleeper
    -- a subscriber with nothing to receive has nothing to receive until there is a new value, or a call touches it
    pub stays : (u : ℕ) (s : S) (c : C) (r : R) → kind.Replies s c r → touches c r ≢ touch.Subscriber u → touches c r ≢ touch.Subscribers
        → mark (kind.after s c r) ≡ mark s → FindsNothing u s → FindsNothing u (kind.after s c r)
    -- a subscriber that got Empty still has nothing to receive
    pub found : (u : ℕ) (s : S) → FindsNothing u s → FindsNothing u (kind.after s (kind.take_next u) (kind.received Empty))
    -- what holds of each state that a history leads to
    pub IsSound : S → Type 0
    pub begins : (s : S) → kind.MayBegin s → IsSound s
    pub keeps : (s : S) (c : C) (r : R) → IsSound s → IsSound (kind.after s c r)
    -- an emission that waits keeps waiting until a call touches it, or no emission up to it waits any more
    pub goes_on : (e : ℕ) (s : S) (c : C) (r : R) → IsSound s → touches c r ≢ touch.Emission e → waits e s ≡ true
        → IsSomeAnd (first_waiting (kind.after s c r)) (λ first. first ≤ e) → waits e (kind.after s c r) ≡ true
    -- no emission that waits is before the first
    pub first_first : (e : ℕ) (s : S) → IsSound s → waits e s ≡ true → IsSomeAnd (first_waiting s) (λ first. first ≤ e)
