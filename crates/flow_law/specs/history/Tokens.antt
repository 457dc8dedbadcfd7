-- The tokens of any flow for several threads, and the calls that every kind of flow has. Begin with `Promise`: it says what a
-- call that is an event adds to what its token knows. `Id` identifies a flow.
use Rattle.std.specs.Prelude.{◌≡◌, ◌≢◌, ℕ, ◌+◌, true, List, ◌++◌, Result, Ok, Err}
use Rattle.flow_law.specs.declared.fault.FlowFault.{FlowFault}
use Rattle.flow_law.specs.declared.fault.FlowFault.TheVariants.{Busy}
use Rattle.flow_law.specs.declared.history.HistoryEvent.{HistoryEvent}
use Rattle.flow_law.specs.declared.history.Knowledge.{Knowledge}
use Rattle.flow_law.specs.declared.history.Said.{Said}
use Rattle.flow_law.specs.declared.outcome.Next.{Next}
use Rattle.flow_law.specs.declared.outcome.Next.TheVariants.{Gone}
use Rattle.flow_law.specs.history.Growth.{Fits, child_name, first_knowledge, sees, loses, makes, child}
use Rattle.flow_law.specs.history.History.{Kind, IsHistory, replied}
use Rattle.flow_law.specs.history.Promise.{Token, CallsIn, CallsAtOnceIn}
use Rattle.flow_law.specs.history.RealTime.{IsTimed}

-- a flow: which one it is, and its first state
pub record Origin (Id S : Type 0) : Type 0 where
  pub table_id : Id
  pub first : S

-- a subscription or an emission: its token, and the number that the flow gave it
pub record NumberedToken (Id E : Type 0) : Type 0 where
  pub token : Token Id E
  pub number : ℕ

module _ {Id S : Type 0} where
  -- the flow of this table and this first state
  abbrev pub origin : Id → S → Origin Id S
  origin id first = record { table_id = id; first = first }

module _ {Id E : Type 0} where
  -- the token of this table with this knowledge
  abbrev pub token : Id → Knowledge E → Token Id E
  token id knows = record { table_id = id; knows = knows }

  -- a token with the number of its subscription or emission
  abbrev pub numbered_token : Token Id E → ℕ → NumberedToken Id E
  numbered_token t number = record { token = t; number = number }

  -- the token, with this knowledge instead of its own
  abbrev pub knowing : Token Id E → Knowledge E → Token Id E
  knowing t knows = token t.table_id knows

  -- another caller was inside: the token has counted one failed attempt, and nothing else has changed
  abbrev pub IsBusy : Token Id E → Token Id E → Type 0
  IsBusy before after = after ≡ knowing before (loses before.knows)

  -- the same token, later: what it has seen begins with all that it had seen before
  abbrev pub HasSeenMore : Token Id E → Token Id E → Type 0
  HasSeenMore before after =
      (after.table_id ≡ before.table_id) × (after.knows.name ≡ before.knows.name)
      × ((more : List (HistoryEvent E)) × (after.knows.seen ≡ before.knows.seen ++ more))

-- a new flow that began in this state, and its first token, which has seen nothing
abbrev pub Begins : {Id S E : Type 0} → S → Origin Id S × Token Id E → Type 0
Begins first made = (made.0.first ≡ first) × (made.1.table_id ≡ made.0.table_id) × (made.1.knows ≡ first_knowledge)

-- the name of the next token that is made through the token with this knowledge
abbrev pub subscription_name : {E : Type 0} → Knowledge E → List ℕ
subscription_name k = child_name k.name (k.made + 1)

module _ {Id T S C R : Type 0} (kind : Kind T S C R) (first : S) where
  -- ---- the calls that every kind of flow has

  -- the subscription called `next`
  abbrev pub NextsIn : NumberedToken Id (Said C R) → Result (Next T) FlowFault → NumberedToken Id (Said C R) → Type 0
  NextsIn old result new = CallsIn kind first old.token (kind.take_next old.number) (replied kind kind.received result) new.token

  -- the subscription unsubscribed. Its token serves other calls
  abbrev pub UnsubscribesIn : NumberedToken Id (Said C R) → Token Id (Said C R) → Type 0
  UnsubscribesIn old after = CallsIn kind first old.token (kind.unsubscribe old.number) (kind.tested true) after

  -- the call counts the subscribers
  abbrev pub CountsIn : Token Id (Said C R) → ℕ → Token Id (Said C R) → Type 0
  CountsIn before count after = CallsIn kind first before kind.count (kind.counted count) after

  -- both tokens have then seen one history of the flow, which fits what each had seen
  pub record MeetsIn (one other one_after other_after : Token Id (Said C R)) : Type 0 where
    pub history : List (HistoryEvent (Said C R))
    pub is_history : IsHistory kind first history
    pub timed : IsTimed history
    pub fits_one : Fits history one.knows
    pub fits_other : Fits history other.knows
    pub sees_one : one_after ≡ knowing one (sees history one.knows)
    pub sees_other : other_after ≡ knowing other (sees history other.knows)

  -- A subscription was made, or refused. `subscribe` makes the call from the subscription's name. The subscription's token is made
  -- through the caller's after the event, so both have seen it.
  abbrev pub SubscribesIn : (List ℕ → C) → Token Id (Said C R) → Result (NumberedToken Id (Said C R)) FlowFault → Token Id (Said C R) → Type 0
  SubscribesIn subscribe before (Ok s) after =
      (between : Token Id (Said C R)) × CallsIn kind first before (subscribe (subscription_name before.knows)) (kind.subscribed s.number) between
      × (after ≡ knowing between (makes between.knows)) × (s.token ≡ knowing between (child between.knows))
  SubscribesIn subscribe before (Err fault) after = CallsIn kind first before (subscribe (subscription_name before.knows)) (kind.refused fault) after

  -- ---- calls that do not wait: Busy exactly if one attempt failed

  -- a `next` that does not wait
  abbrev pub NextsNowIn : NumberedToken Id (Said C R) → Result (Next T) FlowFault → NumberedToken Id (Said C R) → Type 0
  NextsNowIn old (Ok next) new = (next ≢ Gone) × (new.number ≡ old.number) × CallsAtOnceIn kind first old.token (kind.take_next old.number) (kind.received next) new.token
  NextsNowIn old (Err Busy) new = (new.number ≡ old.number) × IsBusy old.token new.token
  NextsNowIn old (Err fault) new = (new.number ≡ old.number) × CallsAtOnceIn kind first old.token (kind.take_next old.number) (kind.refused fault) new.token

  -- a count that does not wait
  abbrev pub CountsNowIn : Token Id (Said C R) → Result ℕ FlowFault → Token Id (Said C R) → Type 0
  CountsNowIn before (Ok count) after = CallsAtOnceIn kind first before kind.count (kind.counted count) after
  CountsNowIn before (Err fault) after = (fault ≡ Busy) × IsBusy before after
