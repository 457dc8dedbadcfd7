-- What contracts see of a sharing: what it keeps, as flow_law's `SharingState`, and its chain and hub. Begin with `sharing_state`.
use Rattle.std.specs.Prelude.{◌≡◌, ℕ, Bool, List}
use Rattle.flow_law.specs.declared.sharing.Started.{Started}
use Rattle.flow_law.specs.declared.sharing.SharingObservation.{SharingObservation}
use Rattle.flow_law.specs.chain.ChainRun.{ChainRun}
use Rattle.flow_law.specs.sharing.SharingCalls.{ChainAndHub}
use Rattle.flow_law.specs.sharing.SharingTurn.{SharingState}
use Rattle.flow_law.specs.sharing.TurnMeaning.{BetweenTurns, IsQuiet}
use Rattle.flow_turns.specs.declared.sharing.Sharing.{Sharing}
use Rattle.flow_turns.specs.Policy.{HasSeen, last_at}

module _ {C H T : Type 0} where
  -- what the sharing keeps between two turns, beside its chain and its hub
  abbrev pub sharing_state : Sharing C H T → SharingState T
  sharing_state sharing = record {
    kept = sharing.kept;
    runs = sharing.policy.running;
    cancel_due = sharing.cancel_due;
    reset_due = sharing.reset_due;
    completed = sharing.completed;
    ended = sharing.ended;
  }

  -- `whole` and `rest` are the runs of the chain
  abbrev pub chain_and_hub : (whole rest : C → ChainRun T) → Sharing C H T → ChainAndHub T H
  chain_and_hub whole rest sharing = record {
    whole = whole sharing.chain;
    rest = rest sharing.chain;
    hub = sharing.hub;
  }

  -- the chain's closures may be called
  abbrev pub CanRun : (C → Type 0) → Sharing C H T → Type 0
  CanRun can_ask sharing = can_ask sharing.chain

  -- the sharing has this policy, and these observations, the newest one first, were accepted
  abbrev pub HasObserved : Started → Sharing C H T → List SharingObservation → Type 0
  HasObserved started sharing seen = HasSeen started sharing.policy seen

  -- the moment of the last observation, 0 before the first one
  abbrev pub last_observed_at : Sharing C H T → ℕ
  last_observed_at sharing = last_at sharing.policy

  -- the chain has failed
  abbrev pub has_ended : Sharing C H T → Bool
  has_ended sharing = sharing.ended

  -- the cold flow that the sharing collects
  abbrev pub sharing_chain : Sharing C H T → C
  sharing_chain sharing = sharing.chain

  -- the flow into which the sharing emits
  abbrev pub hub_of : Sharing C H T → H
  hub_of sharing = sharing.hub

-- every reading of the chain before a call is a reading of the chain after it
abbrev pub KeepsReadings : {C R : Type 0} → (C → R → Type 0) → C → C → Type 0
KeepsReadings {C} {R} reads old new = (m : R) → reads old m → reads new m

-- `whole` and `rest` are the runs of the chain, for each of its readings
module _ {C H T R : Type 0} (whole rest : C → R → ChainRun T) where
  -- the sharing collects this chain into its hub, and has asked nothing of it
  abbrev pub SharesChain : C → Sharing C H T → Type 0
  SharesChain chain sharing =
      (m : R) → chain_and_hub (λ c. whole c m) (λ c. rest c m) sharing ≡ record { whole = whole chain m; rest = rest chain m; hub = hub_of sharing }

  -- what holds between two turns holds of this sharing
  abbrev pub IsBetweenTurns : Sharing C H T → Type 0
  IsBetweenTurns sharing = (m : R) → BetweenTurns (sharing_state sharing) (chain_and_hub (λ c. whole c m) (λ c. rest c m) sharing)

  -- no emission waits in the hub while the sharing does not run
  abbrev pub IsQuietHub : (H → Bool) → Sharing C H T → Type 0
  IsQuietHub waits sharing = (m : R) → IsQuiet waits (sharing_state sharing) (chain_and_hub (λ c. whole c m) (λ c. rest c m) sharing)
