-- What the parts of a turn do. No public clause uses these definitions. Begin with `ActsBy` and `TurnComesTo`.
use Rattle.std.specs.Prelude.{◌≡◌, ℕ, Bool, List, Result, Ok, Err}
use Rattle.flow_law.specs.declared.fault.FlowFault.{FlowFault}
use Rattle.flow_law.specs.declared.sharing.Started.{Started}
use Rattle.flow_law.specs.declared.sharing.Command.{Command}
use Rattle.flow_law.specs.declared.sharing.SharingObservation.{SharingObservation}
use Rattle.flow_law.specs.declared.report.Event.{Event}
use Rattle.flow_law.specs.declared.report.Report.{Report}
use Rattle.flow_law.specs.declared.report.ShareFault.{ShareFault}
use Rattle.flow_law.specs.chain.ChainRun.{ChainRun}
use Rattle.flow_law.specs.sharing.Sharing.{runs_after}
use Rattle.flow_law.specs.sharing.Steps.{Takes}
use Rattle.flow_law.specs.sharing.SharingCalls.{HubCall, HubAnswer, TurnCall, TurnAnswer, to_hub, asks, rewinds, AskDoes, HubStep}
use Rattle.flow_law.specs.sharing.SharingTurn.{SharingState, Turned, TurnSteps, refusal, reported, begin, work, after_count, turn_steps}
use Rattle.flow_turns.specs.declared.sharing.Sharing.{Sharing}
use Rattle.flow_turns.specs.SharingViews.{sharing_state, HasObserved}

-- a chain and a hub
pub record Parts (C H : Type 0) : Type 0 where
  pub chain : C
  pub hub : H

-- the chain and the hub of a sharing
abbrev pub sharing_parts : {C H T : Type 0} → Sharing C H T → Parts C H
sharing_parts sharing = record { chain = sharing.chain; hub = sharing.hub }

-- `whole` and `rest` are the runs of the chain, for each of its readings; `does` and `waits` are those of the hub
module _ {C H T R : Type 0} (reads : C → R → Type 0) (whole rest : C → R → ChainRun T) (does : (c : HubCall T) → H → HubAnswer c → H → Type 0) (waits : H → Bool) where
  -- what a call of the chain leaves, for a reading that it had before: the reading, and the whole run
  abbrev pub KeepsReading : R → C → C → Type 0
  KeepsReading m old new = reads new m × (whole new m ≡ whole old m)

  -- What a call of a turn does to the chain and to the hub. Of a chain without a reading nothing is said.
  abbrev pub ActsBy : (c : TurnCall T) → Parts C H → TurnAnswer c → Parts C H → Type 0
  ActsBy (to_hub call) old answer new = HubStep does waits call old.hub answer new.hub × (new ≡ record old { hub = new.hub })
  ActsBy asks old answer new =
      ((m : R) → reads old.chain m → KeepsReading m old.chain new.chain × AskDoes (rest old.chain m) answer (rest new.chain m))
      × (new ≡ record old { chain = new.chain })
  ActsBy rewinds old answer new =
      ((m : R) → reads old.chain m → KeepsReading m old.chain new.chain × (rest new.chain m ≡ whole old.chain m))
      × (new ≡ record old { chain = new.chain })

-- `acts` says what a call of a turn does to the chain and to the hub
module _ {C H T : Type 0} (acts : (c : TurnCall T) → Parts C H → TurnAnswer c → Parts C H → Type 0) where
  -- the call of the hub has this answer, and the chain does not change
  abbrev pub CallsHub : (c : HubCall T) → Sharing C H T → HubAnswer c → Sharing C H T → Type 0
  CallsHub call old answer new = acts (to_hub call) (sharing_parts old) answer (sharing_parts new)

  -- these steps, which follow a turn's command, come to this outcome, whatever the command and the observations
  abbrev pub TurnComesTo : (Command → List SharingObservation → SharingState T → TurnSteps T) → Sharing C H T → Result Event ShareFault → Sharing C H T → Type 0
  TurnComesTo steps old outcome new =
      (command : Command) (seen : List SharingObservation) →
      Takes acts (steps command seen (sharing_state old)) (sharing_parts old) (record { answer = reported command outcome; seen = seen; state = sharing_state new }) (sharing_parts new)

  -- a command and the steps after it come to this outcome, whatever the observations, if the policy runs as the command says
  abbrev pub CommandComesTo : Command → Sharing C H T → Result Event ShareFault → Sharing C H T → Type 0
  CommandComesTo command old outcome new =
      (all : List SharingObservation) (ran : Bool) → (sharing_state old).runs ≡ runs_after command ran →
      Takes acts (begin all command (record (sharing_state old) { runs = ran })) (sharing_parts old)
      (record { answer = reported command outcome; seen = all; state = sharing_state new }) (sharing_parts new)

  -- whatever the steps `next` come to from `new`, the steps `steps` come to from `old`
  abbrev pub LeadsTo : TurnSteps T → Sharing C H T → TurnSteps T → Sharing C H T → Type 0
  LeadsTo steps old next new =
      (turned : Turned T) (last : Parts C H) →
      Takes acts next (sharing_parts new) turned last →
      Takes acts steps (sharing_parts old) turned last

  -- after the command is obeyed its work is left, if the policy runs as the command says
  abbrev pub CommandLeads : Command → Sharing C H T → Sharing C H T → Type 0
  CommandLeads command old new =
      (all : List SharingObservation) (ran : Bool) → (sharing_state old).runs ≡ runs_after command ran →
      LeadsTo (begin all command (record (sharing_state old) { runs = ran })) old (work command all (sharing_state new)) new

  -- the steps `next` are left of `steps`; or the hub has refused a call, and the turn ends
  abbrev pub GoesOn : (steps next : Command → List SharingObservation → SharingState T → TurnSteps T) → Sharing C H T → Result (Unit {0}) FlowFault → Sharing C H T → Type 0
  GoesOn steps next old (Ok done) new =
      (command : Command) (seen : List SharingObservation) → LeadsTo (steps command seen (sharing_state old)) old (next command seen (sharing_state new)) new
  GoesOn steps next old (Err fault) new = TurnComesTo steps old (refusal fault) new

  -- the sharing takes the steps of a turn, and has then observed what the turn says
  abbrev pub TakesActs : ℕ → Sharing C H T → Result Report ShareFault → Sharing C H T → Type 0
  TakesActs now old result new =
      (started : Started) (seen : List SharingObservation) → HasObserved started old seen →
      (all : List SharingObservation) × HasObserved started new all
      × Takes acts (turn_steps started now seen (sharing_state old)) (sharing_parts old) (record { answer = result; seen = all; state = sharing_state new }) (sharing_parts new)

  -- after this count the sharing takes the steps that are left of a turn, and has then observed what the turn says
  abbrev pub FollowsCount : ℕ → ℕ → Sharing C H T → Result Report ShareFault → Sharing C H T → Type 0
  FollowsCount now count counted result new =
      (started : Started) (seen : List SharingObservation) → HasObserved started counted seen →
      (all : List SharingObservation) × HasObserved started new all
      × Takes acts (after_count started now seen (sharing_state counted) (Ok count)) (sharing_parts counted) (record { answer = result; seen = all; state = sharing_state new }) (sharing_parts new)
