-- A turn over a flow for several threads, in the history of that flow. Begin with `TurnBySeats`.
use Rattle.std.specs.Prelude.{◌≡◌, ◌≢◌, ◌⊎◌, ℕ, ◌+◌, Bool, true, false, List, [], ◌∷◌, ◌++◌, Result, Ok, Err}
use Rattle.std.specs.List.{AllByRecursion}
use Rattle.atomic_table.specs.Seated.{TableId}
use Rattle.flow_law.specs.declared.sharing.Started.{Started}
use Rattle.flow_law.specs.declared.sharing.SharingObservation.{SharingObservation}
use Rattle.flow_law.specs.declared.sharing.Command.{Command}
use Rattle.flow_law.specs.declared.history.HistoryEvent.{HistoryEvent}
use Rattle.flow_law.specs.declared.history.Said.{Said}
use Rattle.flow_law.specs.declared.report.Event.{Event}
use Rattle.flow_law.specs.declared.report.Event.TheVariants.{Busy}
use Rattle.flow_law.specs.declared.report.Report.{Report}
use Rattle.flow_law.specs.declared.report.ShareFault.{ShareFault}
use Rattle.flow_law.specs.history.Promise.{Grows, Token, CallsAtOnceIn}
use Rattle.flow_law.specs.history.History.{Kind}
use Rattle.flow_law.specs.sharing.Sharing.{is_running}
use Rattle.flow_law.specs.flow.SharedHistory.{shared_flow}
use Rattle.flow_law.specs.sharing.SharingCalls.{HubCall, HubAnswer, cancels, resets, ChainAndHub, CallDoes, HubStep}
use Rattle.flow_law.specs.sharing.SharingFlows.{IsNotBusy}
use Rattle.flow_law.specs.sharing.SharingTurn.{SharingState, Turned, turn_steps}
use Rattle.flow_law.specs.flow.StateFlow.{state_flow}
use Rattle.flow_law.specs.sharing.Steps.{Takes}
use Rattle.flow_law.specs.history.Tokens.{HasSeenMore}
use Rattle.flow_law.specs.sharing.TurnMeaning.{HasAccount, BetweenTurns, resets_at, HadCommand, IsCommand, TurnMeans, TurnResets}
use Rattle.flow_sharing.specs.SeatedHub.{SeatedHub, has_emission, nothing_waits}
use Rattle.flow_sharing.specs.SharedFlowHub.{SharedSeats, SharedFlowHubDoes, SharedSays}
use Rattle.flow_sharing.specs.StateFlowHub.{StateSeats, StateFlowHubDoes, StateSays}
use Rattle.flow_sharing.specs.WordHub.{WordHubDoes}
use Rattle.flow_word.specs.Tokens.{WordId}
use Rattle.flow_word_shared.specs.Tokens.{WordFlowId}

-- ---- lost exchanges

-- how many exchanges the seats of a hub have lost
abbrev pub exchanges_lost : {Id S E I : Type 0} → SeatedHub Id S E I → ℕ
exchanges_lost hub = hub.watching.knows.lost + hub.sending.knows.lost

-- how many exchanges a turn lost, by its event
abbrev pub lost_at : Event → ℕ
lost_at Busy = 1
lost_at event = 0

-- how many exchanges a turn lost, by its answer
abbrev pub lost_in : Result Report ShareFault → ℕ
lost_in (Ok report) = lost_at report.event
lost_in (Err fault) = 0

-- ---- within a turn

module _ {Id S E I : Type 0} where
  -- the same hub, later in a turn: its flow and the value that a reset sets are the same, and its seats have seen as much or more
  abbrev pub FollowsInTurn : SeatedHub Id S E I → SeatedHub Id S E I → Type 0
  FollowsInTurn before after =
      (after.flow ≡ before.flow) × (after.initial ≡ before.initial) × HasSeenMore before.watching after.watching × HasSeenMore before.sending after.sending

  -- a call of the hub, in a turn that began with the hub `began`
  abbrev pub InTurn : {T : Type 0} → ((c : HubCall T) → SeatedHub Id S E I → HubAnswer c → SeatedHub Id S E I → Type 0) → SeatedHub Id S E I
      → (c : HubCall T) → SeatedHub Id S E I → HubAnswer c → SeatedHub Id S E I → Type 0
  InTurn does began call old answer new = does call old answer new × FollowsInTurn began old

-- ---- what the sending seat adds

-- The history gains one event of this name for each of these calls of the hub, in this order. Events of others may come before each.
-- `Says` relates a call to its event.
abbrev pub AddsFor : {T E : Type 0} → (HubCall T → E → Type 0) → List ℕ → List (HubCall T) → List (HistoryEvent E) → List (HistoryEvent E) → Type 0
AddsFor Says name [] earlier later = later ≡ earlier
AddsFor {E = E} Says name (call ∷ calls) earlier later =
    (what : E) × Says call what × ((between : List (HistoryEvent E)) × (began : ℕ) × Grows name earlier began what between × AddsFor Says name calls between later)

-- whether a turn makes a reset: it was due or asked for, and is not left due
abbrev pub makes_reset : Bool → Bool → Bool
makes_reset true false = true
makes_reset asked still_due = false

-- a reset of the hub, if one was made
abbrev pub resets_if : {T : Type 0} → Bool → List (HubCall T)
resets_if true = resets ∷ []
resets_if false = []

-- What the sending seat adds in a turn, by whether the turn makes a reset: first a cancel of its emission, if it makes one; then the reset,
-- if it is made; and no later event is a reset.
pub record SendsInTurn {Id T E : Type 0} (Says : HubCall T → E → Type 0) (is_made : Bool) (before after : Token Id E) : Type 0 where
  pub first : List (HubCall T)
  pub later : List (HubCall T)
  pub cancels_first : (first ≡ []) ⊎ (first ≡ cancels ∷ [])
  pub no_reset : AllByRecursion (λ (call : HubCall T). call ≢ resets) later
  pub adds : AddsFor Says before.knows.name (first ++ (resets_if is_made ++ later)) before.knows.seen after.knows.seen

-- ---- the turn

-- `Says` relates a call of the hub to the event of the sending seat that it makes, by what a reset sets. `step` says what a call of the hub
-- does.
pub record TurnBySeats {Id T S C R I : Type 0} (kind : Kind T S C R) (Says : I → HubCall T → Said C R → Type 0) (step : (c : HubCall T) → SeatedHub Id S (Said C R) I → HubAnswer c → SeatedHub Id S (Said C R) I → Type 0)
    (started : Started) (now : ℕ) (seen : List SharingObservation) (s : SharingState T)
    (old : ChainAndHub T (SeatedHub Id S (Said C R) I)) (turned : Turned T) (new : ChainAndHub T (SeatedHub Id S (Said C R) I)) : Type 0 where
  -- If the turn reports Busy, one exchange was lost, else none.
  pub lost : exchanges_lost new.hub ≡ exchanges_lost old.hub + lost_in turned.answer
  -- If an observation was accepted, its count is the reply of a `subscription_count`, the one event that the watching seat has added.
  pub observed : (turned.seen ≡ seen) ⊎ ((count : ℕ) × (turned.seen ≡ record { moment = now; count = count } ∷ seen)
      × CallsAtOnceIn kind old.hub.flow.first old.hub.watching kind.count (kind.counted count) new.hub.watching)
  -- The answer is true, by calls of this turn: an item that was accepted is the last event of the sending seat, and so is the poll of a
  -- turn that reports Waiting.
  pub means : s.runs ≡ is_running started seen → BetweenTurns s old → (accepted : List T) → HasAccount accepted s old
      → TurnMeans (InTurn step old.hub) accepted s old turned.answer turned.state new
  -- A reset that was made is an event of the sending seat in this turn, after the cancel.
  pub reset : TurnResets (InTurn step old.hub) (IsCommand started seen turned.seen) s old.hub turned.answer turned.state new.hub
  -- It is the one reset among the events that the sending seat adds in this turn. In any other turn there is none.
  pub sent : (command : Command) × HadCommand command turned.answer × IsCommand started seen turned.seen command
      × SendsInTurn (Says old.hub.initial) (makes_reset (resets_at command s.reset_due) turned.state.reset_due) old.hub.sending new.hub.sending
  -- The hub is of the same flow, by the same two seats.
  pub follows : FollowsInTurn old.hub new.hub

-- A turn over a shared flow for several threads.
abbrev pub LawTurnOverSharedFlow : Type 0 → Type 0
LawTurnOverSharedFlow T =
    (started : Started) (now : ℕ) (seen : List SharingObservation) (s : SharingState T) (old new : ChainAndHub T (SharedSeats TableId T)) (turned : Turned T) →
    Takes (CallDoes (HubStep SharedFlowHubDoes has_emission)) (turn_steps started now seen s) old turned new →
    TurnBySeats shared_flow SharedSays (HubStep SharedFlowHubDoes has_emission) started now seen s old turned new

-- A turn over a shared flow that is read without a lock, in which no emission waits.
abbrev pub LawTurnOverWordFlow : Type 0 → Type 0
LawTurnOverWordFlow T =
    (started : Started) (now : ℕ) (seen : List SharingObservation) (s : SharingState T) (old new : ChainAndHub T (SharedSeats WordFlowId T)) (turned : Turned T) →
    Takes (CallDoes (HubStep SharedFlowHubDoes nothing_waits)) (turn_steps started now seen s) old turned new →
    TurnBySeats shared_flow SharedSays (HubStep SharedFlowHubDoes nothing_waits) started now seen s old turned new

-- A turn over a state flow for several threads.
abbrev pub LawTurnOverStateFlow : Type 0 → Type 0
LawTurnOverStateFlow T =
    (started : Started) (now : ℕ) (seen : List SharingObservation) (s : SharingState T) (old new : ChainAndHub T (StateSeats TableId T)) (turned : Turned T) →
    Takes (CallDoes (HubStep StateFlowHubDoes nothing_waits)) (turn_steps started now seen s) old turned new →
    TurnBySeats state_flow StateSays (HubStep StateFlowHubDoes nothing_waits) started now seen s old turned new

-- A turn over a state flow without a lock, which is never Busy.
abbrev pub LawTurnOverWordState : Type 0 → Type 0
LawTurnOverWordState T =
    (started : Started) (now : ℕ) (seen : List SharingObservation) (s : SharingState T) (old new : ChainAndHub T (StateSeats WordId T)) (turned : Turned T) →
    Takes (CallDoes (HubStep WordHubDoes nothing_waits)) (turn_steps started now seen s) old turned new →
    TurnBySeats state_flow StateSays (HubStep WordHubDoes nothing_waits) started now seen s old turned new × IsNotBusy turned.answer
