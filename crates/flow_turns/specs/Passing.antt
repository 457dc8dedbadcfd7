-- A turn that finds that a subscriber has come and left since the last count: it observes one subscriber. Begin with `TakesPassed`.
use Rattle.std.specs.Prelude.{◌≡◌, ℕ, Bool, false, List, Result, Ok, Err}
use Rattle.flow_law.specs.declared.fault.FlowFault.{FlowFault}
use Rattle.flow_law.specs.declared.sharing.Started.{Started}
use Rattle.flow_law.specs.declared.sharing.SharingObservation.{SharingObservation}
use Rattle.flow_law.specs.declared.report.Report.{Report}
use Rattle.flow_law.specs.declared.report.ShareFault.{ShareFault}
use Rattle.flow_law.specs.chain.ChainRun.{ChainRun}
use Rattle.flow_law.specs.sharing.Steps.{Takes}
use Rattle.flow_law.specs.sharing.SharingCalls.{HubCall, HubAnswer, counts, with_hub, CallDoes, HubStep}
use Rattle.flow_law.specs.sharing.SharingTurn.{after_count}
use Rattle.flow_turns.specs.declared.passing.RunReport.{RunReport}
use Rattle.flow_turns.specs.declared.watched.CountSince.{CountSince}
use Rattle.flow_turns.specs.declared.sharing.Sharing.{Sharing}
use Rattle.flow_turns.specs.SharingViews.{sharing_state, chain_and_hub, hub_of, has_ended, HasObserved}
use Rattle.flow_turns.specs.TurnClauses.{TakesOver}

-- the number that was counted
abbrev pub count_alone : Result CountSince FlowFault → Result ℕ FlowFault
count_alone (Ok since) = Ok since.count
count_alone (Err fault) = Err fault

-- `does` and `waits` are those of the hub; `Came` says of two hubs that a subscriber has come between their last counts
module _ {H T : Type 0} (does : (c : HubCall T) → H → HubAnswer c → H → Type 0) (waits : H → Bool) (Came : H → H → Type 0) where
  -- the hub counted no subscriber, though one has come since the last count
  abbrev pub CountsPassed : H → H → Type 0
  CountsPassed old new = HubStep does waits counts old (Ok 0) new × Came old new

module _ {C H T : Type 0} (whole rest : C → ChainRun T) (does : (c : HubCall T) → H → HubAnswer c → H → Type 0) (waits : H → Bool) (Came : H → H → Type 0) where
  -- The hub counted no subscriber, though one has come; then the sharing takes the steps of a turn that has counted one.
  abbrev pub TakesPassed : ℕ → Sharing C H T → Result Report ShareFault → Sharing C H T → Type 0
  TakesPassed now old result new =
      (has_ended old ≡ false) × ((mid : H) × CountsPassed does waits Came (hub_of old) mid
      × ((started : Started) (seen : List SharingObservation) → HasObserved started old seen →
      (all : List SharingObservation) × HasObserved started new all
      × Takes (CallDoes (HubStep does waits)) (after_count started now seen (sharing_state old) (Ok 1)) (with_hub (chain_and_hub whole rest old) mid)
      (record { answer = result; seen = all; state = sharing_state new }) (chain_and_hub whole rest new)))

module _ {C H T : Type 0} (does : (c : HubCall T) → H → HubAnswer c → H → Type 0) (waits : H → Bool) (Came : H → H → Type 0) where
  -- the same, whatever the chain answers
  abbrev pub TakesSomePassed : ℕ → Sharing C H T → Result Report ShareFault → Sharing C H T → Type 0
  TakesSomePassed now old result new =
      (has_ended old ≡ false) × ((mid : H) × CountsPassed does waits Came (hub_of old) mid
      × ((started : Started) (seen : List SharingObservation) → HasObserved started old seen →
      (all : List SharingObservation) × HasObserved started new all
      × TakesOver does waits (after_count started now seen (sharing_state old) (Ok 1)) mid (record { answer = result; seen = all; state = sharing_state new }) (hub_of new)))

-- the answer of a turn of a run, without what it observed
abbrev pub report_alone : Result RunReport ShareFault → Result Report ShareFault
report_alone (Ok turned) = Ok turned.report
report_alone (Err fault) = Err fault
