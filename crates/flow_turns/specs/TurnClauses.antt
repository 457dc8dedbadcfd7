-- What each turn of a sharing promises: its steps, what its answer means, what happens to a reset, and what stays true between turns. What
-- depends on the observations holds for every list of them that leads to what the sharing's policy keeps. The turn itself is `turn_steps`
-- of flow_law.
use Rattle.std.specs.Prelude.{◌≡◌, ℕ, Bool, true, false, List, Result, Ok, Err}
use Rattle.flow_law.specs.declared.chain.ChainFault.{ChainFault}
use Rattle.flow_law.specs.declared.chain.End.{End}
use Rattle.flow_law.specs.declared.chain.End.TheVariants.{Failed}
use Rattle.flow_law.specs.declared.sharing.Started.{Started}
use Rattle.flow_law.specs.declared.sharing.Command.{Command}
use Rattle.flow_law.specs.declared.sharing.SharingObservation.{SharingObservation}
use Rattle.flow_law.specs.declared.report.Event.TheVariants.{Idle}
use Rattle.flow_law.specs.declared.report.Report.{Report}
use Rattle.flow_law.specs.declared.report.ShareFault.{ShareFault}
use Rattle.flow_law.specs.declared.report.ShareFault.TheVariants.{Chain}
use Rattle.flow_law.specs.chain.ChainRun.{ChainRun}
use Rattle.flow_law.specs.sharing.Steps.{Takes}
use Rattle.flow_law.specs.sharing.SharingCalls.{HubCall, HubAnswer, CallDoes, HubStep}
use Rattle.flow_law.specs.sharing.SharingTurn.{Turned, TurnSteps, reported, turn_steps}
use Rattle.flow_law.specs.sharing.TurnMeaning.{HasAccount, BetweenTurns, IsQuiet, IsCommand, TurnMeans, TurnResets}
use Rattle.flow_turns.specs.declared.sharing.Sharing.{Sharing}
use Rattle.flow_turns.specs.SharingViews.{sharing_state, chain_and_hub, sharing_chain, hub_of, HasObserved}

-- `whole` and `rest` are the runs of the chain; `does` and `waits` are those of the hub
module _ {C H T : Type 0} (whole rest : C → ChainRun T) (does : (c : HubCall T) → H → HubAnswer c → H → Type 0) (waits : H → Bool) where
  -- the sharing takes the steps of a turn, and has then observed what the turn says
  abbrev pub TakesTurn : ℕ → Sharing C H T → Result Report ShareFault → Sharing C H T → Type 0
  TakesTurn now old result new =
      (started : Started) (seen : List SharingObservation) → HasObserved started old seen →
      (all : List SharingObservation) × HasObserved started new all
      × Takes (CallDoes (HubStep does waits)) (turn_steps started now seen (sharing_state old)) (chain_and_hub whole rest old)
      (record { answer = result; seen = all; state = sharing_state new }) (chain_and_hub whole rest new)

  -- the answer is true of the items that the hub has accepted since the last start
  abbrev pub MeansAnswer : Sharing C H T → Result Report ShareFault → Sharing C H T → Type 0
  MeansAnswer old result new =
      (started : Started) (seen : List SharingObservation) (accepted : List T) → HasObserved started old seen →
      BetweenTurns (sharing_state old) (chain_and_hub whole rest old) → HasAccount accepted (sharing_state old) (chain_and_hub whole rest old) →
      TurnMeans (HubStep does waits) accepted (sharing_state old) (chain_and_hub whole rest old) result (sharing_state new) (chain_and_hub whole rest new)

-- `does` and `waits` are those of the hub
module _ {H T : Type 0} (does : (c : HubCall T) → H → HubAnswer c → H → Type 0) (waits : H → Bool) where
  -- The steps may be taken from the hub `old` to the hub `new`, over a chain that has some runs: its answers may be any.
  pub record TakesOver (steps : TurnSteps T) (old : H) (turned : Turned T) (new : H) : Type 0 where
    pub whole : ChainRun T
    pub before : ChainRun T
    pub after : ChainRun T
    pub takes : Takes (CallDoes (HubStep does waits)) steps (record { whole = whole; rest = before; hub = old }) turned (record { whole = whole; rest = after; hub = new })

module _ {C H T : Type 0} (does : (c : HubCall T) → H → HubAnswer c → H → Type 0) (waits : H → Bool) where
  -- the sharing takes the steps of a turn, whatever its chain answers, and has then observed what the turn says
  abbrev pub TakesSomeTurn : ℕ → Sharing C H T → Result Report ShareFault → Sharing C H T → Type 0
  TakesSomeTurn now old result new =
      (started : Started) (seen : List SharingObservation) → HasObserved started old seen →
      (all : List SharingObservation) × HasObserved started new all
      × TakesOver does waits (turn_steps started now seen (sharing_state old)) (hub_of old) (record { answer = result; seen = all; state = sharing_state new }) (hub_of new)

module _ {C H T : Type 0} where
  -- the turn's command is the one of the observations
  abbrev pub WasCommanded : Sharing C H T → Sharing C H T → Command → Type 0
  WasCommanded old new command =
      (started : Started) (seen : List SharingObservation) → HasObserved started old seen →
      (all : List SharingObservation) × HasObserved started new all × IsCommand started seen all command

module _ {C H T : Type 0} (does : (c : HubCall T) → H → HubAnswer c → H → Type 0) (waits : H → Bool) where
  -- A reset that was due, or that the command asked for, has been made in this turn, once and after the cancel; or it stays due, and none
  -- has been made. In any other turn none has been made.
  abbrev pub HandlesReset : Sharing C H T → Result Report ShareFault → Sharing C H T → Type 0
  HandlesReset old result new =
      TurnResets (HubStep does waits) (WasCommanded old new) (sharing_state old) (hub_of old) result (sharing_state new) (hub_of new)

module _ {C H T : Type 0} (whole rest : C → ChainRun T) where
  -- what is true between turns is true again after the turn
  abbrev pub StaysBetween : Sharing C H T → Sharing C H T → Type 0
  StaysBetween old new =
      (started : Started) (seen : List SharingObservation) → HasObserved started old seen →
      BetweenTurns (sharing_state old) (chain_and_hub whole rest old) → BetweenTurns (sharing_state new) (chain_and_hub whole rest new)

  -- if no emission of any caller waited while the sharing did not run, none does after the turn; so none waits after a
  -- turn that answers `Idle`
  abbrev pub StaysQuiet : (H → Bool) → Sharing C H T → Result Report ShareFault → Sharing C H T → Type 0
  StaysQuiet waits old result new =
      (started : Started) (seen : List SharingObservation) → HasObserved started old seen → IsQuiet waits (sharing_state old) (chain_and_hub whole rest old) →
      IsQuiet waits (sharing_state new) (chain_and_hub whole rest new)
      × ((command : Command) → result ≡ reported command (Ok Idle) → waits (hub_of new) ≡ false)

-- P of the fault, if the answer is a fault of the chain
abbrev pub OnChainFault : {R : Type 0} → Result R ShareFault → (ChainFault → Type 0) → Type 0
OnChainFault (Err (Chain fault)) P = P fault
OnChainFault result P = Unit {0}

-- if the answer is a fault of the chain, it was the chain's last answer
abbrev pub FaultWasAnswered : {C H T R : Type 0} → (C → End → Type 0) → Result R ShareFault → Sharing C H T → Type 0
FaultWasAnswered has_answered result new = OnChainFault result (λ fault. has_answered (sharing_chain new) (Failed fault))

-- the sharing has ended once a turn answered a fault of the chain
abbrev pub ended_after : {R : Type 0} → Result R ShareFault → Bool → Bool
ended_after (Err (Chain fault)) ended = true
ended_after result ended = ended
