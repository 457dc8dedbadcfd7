-- What each call of a sharing does to a state flow without a lock. Begin with `WordHubDoes`.
use Rattle.std.specs.Prelude.{◌≡◌, ◌<◌, ℕ, true, Option, Some, None}
use Rattle.std.specs.Result.{is_ok}
use Rattle.flow_law.specs.declared.call.StateCall.{StateCall}
use Rattle.flow_law.specs.declared.call.StateReply.{StateReply}
use Rattle.flow_law.specs.declared.history.Said.{Said}
use Rattle.flow_law.specs.declared.states.StateFlowState.{StateFlowState}
use Rattle.flow_law.specs.history.Promise.{Token}
use Rattle.flow_law.specs.sharing.SharingCalls.{HubCall, HubAnswer}
use Rattle.flow_law.specs.flow.StateFlow.{state_after_all}
use Rattle.flow_sharing.specs.StateFlowHub.{StateSeats, StateFlowHubDoes}

module _ {Id T : Type 0} where
  -- It does what a hub of a state flow does, and no call is refused.
  abbrev pub WordHubDoes : (c : HubCall T) → StateSeats Id T → HubAnswer c → StateSeats Id T → Type 0
  WordHubDoes c old answer new = (is_ok answer ≡ true) × StateFlowHubDoes c old answer new

  -- how many subscriptions the flow has accepted, by what a seat has seen
  abbrev pub accepted_by : StateFlowState T → Token Id (Said (StateCall T) (StateReply T)) → ℕ
  accepted_by first seat = (state_after_all first seat.knows.seen).issued

  -- the number was counted when the seat had seen this
  abbrev pub HasCounted : StateFlowState T → Token Id (Said (StateCall T) (StateReply T)) → Option ℕ → Type 0
  HasCounted first seat None = Unit {0}
  HasCounted first seat (Some accepted) = accepted_by first seat ≡ accepted

  -- the flow has accepted a subscription between the last counts of these hubs
  abbrev pub HasCome : StateSeats Id T → StateSeats Id T → Type 0
  HasCome old new = accepted_by old.flow.first old.watching < accepted_by old.flow.first new.watching
