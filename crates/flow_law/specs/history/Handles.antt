-- Handles, which are tokens bound to their flow, and the answers of the flow's own calls that a handle's answers stand for.
use Rattle.std.specs.Prelude.{◌≡◌, ⊤, ℕ, List, Option, Some, None, Result, Ok, Err}
use Rattle.flow_law.specs.declared.fault.FlowFault.{FlowFault}
use Rattle.flow_law.specs.declared.history.Said.{Said}
use Rattle.flow_law.specs.declared.outcome.Next.{Next}
use Rattle.flow_law.specs.declared.outcome.Next.TheVariants.{Value, Empty}
use Rattle.flow_law.specs.history.History.{Kind}
use Rattle.flow_law.specs.history.Tokens.{Origin, NumberedToken, SubscribesIn}
use Rattle.flow_law.specs.history.Promise.{Token}

-- a seat and its flow
pub record CallerOf (Id S E : Type 0) : Type 0 where
  pub flow : Origin Id S
  pub token : Token Id E

-- a subscription and its flow
pub record ReaderOf (Id S E : Type 0) : Type 0 where
  pub flow : Origin Id S
  pub subscription : NumberedToken Id E

module _ {Id S E : Type 0} where
  -- the caller that has this flow and this token
  abbrev pub called_by : Origin Id S → Token Id E → CallerOf Id S E
  called_by flow token = record { flow = flow; token = token }

  -- the reader that has this flow and this subscription
  abbrev pub read_by : Origin Id S → NumberedToken Id E → ReaderOf Id S E
  read_by flow subscription = record { flow = flow; subscription = subscription }

  -- the subscription without its flow
  abbrev pub subscription_alone : Result (ReaderOf Id S E) FlowFault → Result (NumberedToken Id E) FlowFault
  subscription_alone (Ok r) = Ok r.subscription
  subscription_alone (Err fault) = Err fault

  -- the new reader, if one was made, is of this flow
  abbrev pub IsToSame : Origin Id S → Result (ReaderOf Id S E) FlowFault → Type 0
  IsToSame flow (Ok r) = r.flow ≡ flow
  IsToSame flow (Err fault) = ⊤

-- a call through a handle that subscribes: the new reader is of the handle's flow
abbrev pub SubscribesBound : {Id T S C R : Type 0} → Kind T S C R → (List ℕ → C) → CallerOf Id S (Said C R) → Result (ReaderOf Id S (Said C R)) FlowFault → Token Id (Said C R) → Type 0
SubscribesBound kind subscribe before result after = IsToSame before.flow result × SubscribesIn kind before.flow.first subscribe before.token (subscription_alone result) after

module _ {T : Type 0} where
  -- what a call of `next` gave: `None` means that there is nothing yet
  abbrev pub next_of : Option T → Next T
  next_of (Some v) = Value v
  next_of None = Empty

  -- the reply to `next` that an answer of a reader stands for
  abbrev pub next_in : Result (Option T) FlowFault → Result (Next T) FlowFault
  next_in (Ok given) = Ok (next_of given)
  next_in (Err fault) = Err fault
