-- The laws of flows, of a history that a flow may have had.
use Rattle.std.proofs.Common.{ℕ, sym, subst}
use Rattle.std.specs.Prelude.{IsSome}
use Rattle.flow_law.specs.declared.call.SharedCall.{SharedCall}
use Rattle.flow_law.specs.declared.call.SharedReply.{SharedReply}
use Rattle.flow_law.specs.declared.call.StateCall.{StateCall}
use Rattle.flow_law.specs.declared.call.StateReply.{StateReply}
use Rattle.flow_law.specs.declared.history.Knowledge.{Knowledge}
use Rattle.flow_law.specs.declared.history.Said.{Said}
use Rattle.flow_law.specs.flow.SharedFlow.{SharedFlowState, position_of}
use Rattle.flow_law.specs.flow.SharedHistory.{History, IsLegalShared, IsLegalFrom, shared_after_all, shared_flow, state_after}
use Rattle.flow_law.specs.flow.StateFlow.{StateFlowState, StateHistory, IsLegalState, IsStateHistory, state_after_all, state_flow}
use Rattle.flow_law.specs.history.History.{IsHistory, IsSubscription}
use Rattle.flow_law.specs.laws.Conflation.{Conflates}
use Rattle.flow_law.specs.laws.Laws.{Delivers, NoIdleQueue}
use Rattle.flow_law.specs.laws.Waiting.{EachWaits}
use Rattle.flow_law.specs.laws.Lagging.{EachLags}
use Rattle.flow_law.specs.laws.Replaying.{EachReplays}
use Rattle.flow_law.specs.laws.Current.{Converges, IsThere}
use Rattle.flow_law.proofs.Admitted.{admits}
use Rattle.flow_law.proofs.LaggedReads.{lags}
use Rattle.flow_law.proofs.ReplayLemmas.{replays}
use Rattle.flow_law.proofs.CurrentLemmas.{currents}
use Rattle.flow_law.proofs.Conflating.{conflates}
use Rattle.flow_law.proofs.Delivered.{delivers}
use Rattle.flow_law.proofs.Queue.{always_calm}

module _ {T : Type 0} where
  pub legal_of : (first : SharedFlowState T) (h : History T) → IsHistory shared_flow first h → IsLegalShared first.config h
  legal_of first h is = (is.begins.1, subst (λ (s : SharedFlowState T). IsLegalFrom s h) is.begins.0 is.legal)

  pub history_delivers : (first : SharedFlowState T) (h : History T) → IsHistory shared_flow first h → (u : ℕ) → Delivers u first.config h
  history_delivers first h is u = delivers first.config h (legal_of first h is) u

  pub history_calm : (first : SharedFlowState T) (h : History T) → IsHistory shared_flow first h → NoIdleQueue (state_after first.config h)
  history_calm first h is = (always_calm first.config h).idle

  pub history_conflates : (first : StateFlowState T) (h : StateHistory T) → IsStateHistory first h → Conflates first.value h
  history_conflates first h is = λ u unreached l. conflates first.limit first.value h (subst (λ (s : StateFlowState T). IsLegalState s h) is.begins is.legal) u unreached l

  pub history_admits : (first : SharedFlowState T) (h : History T) → IsHistory shared_flow first h → EachWaits first.config h
  history_admits first h is = admits first.config h (legal_of first h is)

  pub history_lags : (first : SharedFlowState T) (h : History T) → IsHistory shared_flow first h → EachLags first.config h
  history_lags first h is = lags first.config h (legal_of first h is)

  pub history_replays : (first : SharedFlowState T) (h : History T) → IsHistory shared_flow first h → EachReplays first.config h
  history_replays first h is = replays first.config h (legal_of first h is)

  pub history_converges : (first : StateFlowState T) (h : StateHistory T) → IsStateHistory first h → (u : ℕ) → Converges u first h
  history_converges first h is u = subst (λ (s : StateFlowState T). Converges u s h) (sym is.begins)
      (currents first.limit first.value h (subst (λ (s : StateFlowState T). IsLegalState s h) is.begins is.legal) u)

  -- after all that its token has seen, a subscription is subscribed
  pub shared_has : (first : SharedFlowState T) (k : Knowledge (Said (SharedCall T) (SharedReply T))) (u : ℕ) → IsHistory shared_flow first k.seen → IsSubscription shared_flow k u
      → IsSome (position_of u (state_after first.config k.seen).subscribers)
  shared_has first k u is subscription = subst (λ (s : SharedFlowState T). IsSome (position_of u (shared_after_all s k.seen).subscribers)) is.begins.0 (subscription.1 first is.legal)

  pub state_has : (first : StateFlowState T) (k : Knowledge (Said (StateCall T) (StateReply T))) (u : ℕ) → IsStateHistory first k.seen → IsSubscription state_flow k u
      → IsThere u (state_after_all first k.seen)
  state_has first k u is subscription = subscription.1 first is.legal
