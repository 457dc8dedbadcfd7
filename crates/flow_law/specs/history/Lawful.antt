-- The facts that each kind of flow is proved to have. No public clause cites this module, except the law of a core.
use Rattle.std.specs.Prelude.{◌≡◌, ◌≢◌, ◌⊎◌, ℕ, ◌<◌, ◌≤◌, Bool, true, List, Option, Some, None}
use Rattle.flow_law.specs.declared.fault.FlowFault.{FlowFault}
use Rattle.flow_law.specs.declared.fault.FlowFault.TheVariants.{OutOfMemory, Exhausted, Busy}
use Rattle.flow_law.specs.declared.outcome.Next.TheVariants.{Gone}
use Rattle.flow_law.specs.history.History.{Number, subscriber, emission, Owner, Kind}

-- the number, without its kind
abbrev pub number_in : Number → ℕ
number_in (subscriber n) = n
number_in (emission n) = n

-- a number that a call issues was not issued before, and is issued after
abbrev pub IsNew : ℕ → Option Owner → ℕ → Type 0
IsNew issued None later = Unit {0}
IsNew issued (Some o) later = (issued < number_in o.number) × (number_in o.number ≤ later)

-- A call that subscribes, by the subscription's name: it names no number, the subscription owns the new subscriber's number, and
-- there is then a subscriber of this number.
pub record Subscribing {T S C R : Type 0} (kind : Kind T S C R) (subscribe : List ℕ → C) : Type 0 where
  pub speaks : (name : List ℕ) → kind.speaks_of (subscribe name) ≡ None
  pub gives : (by name : List ℕ) (u : ℕ) → kind.gives by (subscribe name) (kind.subscribed u) ≡ Some (record { number = subscriber u; name = name })
  pub has : (s : S) (name : List ℕ) (u : ℕ) → kind.Replies s (subscribe name) (kind.subscribed u) → kind.HasSubscriber u (kind.after s (subscribe name) (kind.subscribed u))

-- the facts of a kind of flow
pub record Lawful {T S C R : Type 0} (kind : Kind T S C R) : Type 0 where
  -- how many numbers were issued
  pub issued : S → ℕ
  pub rises : (s : S) (c : C) (r : R) → kind.Replies s c r → issued s ≤ issued (kind.after s c r)
  pub gives_new : (s : S) (name : List ℕ) (c : C) (r : R) → kind.Replies s c r → IsNew (issued s) (kind.gives name c r) (issued (kind.after s c r))
  -- the numbers that a subscriber's calls name
  pub next_speaks : (u : ℕ) → kind.speaks_of (kind.take_next u) ≡ Some (subscriber u)
  pub unsubscribe_speaks : (u : ℕ) → kind.speaks_of (kind.unsubscribe u) ≡ Some (subscriber u)
  pub count_speaks : kind.speaks_of kind.count ≡ None
  -- a new subscriber is subscribed, and stays so while no call except `next` names its number
  pub subscribing : Subscribing kind kind.subscribe
  pub others_keep : (u : ℕ) (s : S) (c : C) (r : R) → kind.speaks_of c ≢ Some (subscriber u) → kind.HasSubscriber u s → kind.HasSubscriber u (kind.after s c r)
  pub next_keeps : (u : ℕ) (s : S) (r : R) → kind.HasSubscriber u s → kind.HasSubscriber u (kind.after s (kind.take_next u) r)
  -- `next` of a subscriber never replies Gone, and its `unsubscribe` replies true
  pub never_gone : (s : S) (u : ℕ) → kind.HasSubscriber u s → kind.Replies s (kind.take_next u) (kind.received Gone) → ⊥
  pub was_there : (s : S) (u : ℕ) (answer : Bool) → kind.HasSubscriber u s → kind.Replies s (kind.unsubscribe u) (kind.tested answer) → answer ≡ true
  -- no flow of one thread answers Busy
  pub never_busy : (s : S) (c : C) → kind.Replies s c (kind.refused Busy) → ⊥
  -- why a subscriber's calls are refused
  pub subscribe_refused : (s : S) (name : List ℕ) (fault : FlowFault) → kind.Replies s (kind.subscribe name) (kind.refused fault) → (fault ≡ OutOfMemory) ⊎ (fault ≡ Exhausted)
  pub next_refused : (s : S) (u : ℕ) (fault : FlowFault) → kind.Replies s (kind.take_next u) (kind.refused fault) → fault ≡ OutOfMemory
