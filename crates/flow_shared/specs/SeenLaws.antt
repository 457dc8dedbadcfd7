-- What the laws of a flow say of the history that a token has seen. Begin with `SharedLaws`.
use Rattle.std.specs.Prelude.{ℕ, List}
use Rattle.flow_law.specs.declared.call.SharedCall.{SharedCall}
use Rattle.flow_law.specs.declared.call.SharedReply.{SharedReply}
use Rattle.flow_law.specs.declared.call.StateCall.{StateCall}
use Rattle.flow_law.specs.declared.call.StateReply.{StateReply}
use Rattle.flow_law.specs.declared.history.HistoryEvent.{HistoryEvent}
use Rattle.flow_law.specs.declared.history.Said.{Said}
use Rattle.flow_law.specs.declared.states.SharedFlowState.{SharedFlowState}
use Rattle.flow_law.specs.declared.states.StateFlowState.{StateFlowState}
use Rattle.flow_law.specs.laws.Conflation.{Conflates}
use Rattle.flow_law.specs.laws.Current.{Converges}
use Rattle.flow_law.specs.history.History.{IsHistory}
use Rattle.flow_law.specs.laws.Lagging.{EachLags}
use Rattle.flow_law.specs.laws.Laws.{Delivers, NoIdleQueue}
use Rattle.flow_law.specs.history.RealTime.{InRealTime}
use Rattle.flow_law.specs.laws.Replaying.{EachReplays}
use Rattle.flow_law.specs.flow.SharedHistory.{shared_flow, state_after}
use Rattle.flow_law.specs.flow.StateFlow.{IsStateHistory}
use Rattle.flow_law.specs.laws.Waiting.{EachWaits}

module _ {T : Type 0} where
  -- it is a history of the shared flow that began with this state, and the laws of shared flows hold of it
  pub record SharedLaws (first : SharedFlowState T) (seen : List (HistoryEvent (Said (SharedCall T) (SharedReply T)))) : Type 0 where
    pub history : IsHistory shared_flow first seen
    pub in_real_time : InRealTime seen
    pub delivered : (u : ℕ) → Delivers u first.config seen
    pub no_idle_queue : NoIdleQueue (state_after first.config seen)
    pub admitted : EachWaits first.config seen
    pub lagged : EachLags first.config seen
    pub replayed : EachReplays first.config seen

  -- it is a history of the state flow that began with this state, and the laws of state flows hold of it
  pub record StateLaws (first : StateFlowState T) (seen : List (HistoryEvent (Said (StateCall T) (StateReply T)))) : Type 0 where
    pub history : IsStateHistory first seen
    pub in_real_time : InRealTime seen
    pub conflated : Conflates first.value seen
    pub current : (u : ℕ) → Converges u first seen
