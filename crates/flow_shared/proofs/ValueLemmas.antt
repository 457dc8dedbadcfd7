-- A subscription is still one after a `value` through its seat.
use Rattle.std.proofs.Common.{ℕ, List, [], ◌∷◌, ◌++◌, refl, sym, subst}
use Rattle.flow_law.specs.declared.history.HistoryEvent.{HistoryEvent}
use Rattle.flow_law.specs.declared.history.Knowledge.{Knowledge}
use Rattle.flow_law.specs.declared.history.Said.{Said}
use Rattle.flow_law.specs.declared.call.StateCall.{StateCall}
use Rattle.flow_law.specs.declared.call.StateCall.TheVariants.{GetValue}
use Rattle.flow_law.specs.declared.call.StateReply.{StateReply}
use Rattle.flow_law.specs.declared.states.StateFlowState.{StateFlowState}
use Rattle.flow_law.specs.history.Growth.{event}
use Rattle.flow_law.specs.history.History.{subscriber, after_all, IsGiven, IsSubscribed, IsSubscription}
use Rattle.flow_law.specs.history.Promise.{said, AddsOne}
use Rattle.flow_law.specs.flow.StateFlow.{StateHistory, state_flow, IsStateHistory}
use Rattle.flow_law.proofs.HistoryLemmas.{after_all-snoc}
use Rattle.flow_law.proofs.Owners.{history_left, legal_left, given_stays}
use Rattle.flow_law.proofs.StateLawful.{state_lawful}
use Rattle.flow_law.proofs.Subscriptions.{subscription_grows}

abbrev StateKnowledge : Type 0 → Type 0
StateKnowledge T = Knowledge (Said (StateCall T) (StateReply T))

module _ {T : Type 0} where
  pub subscription_after_value : (first : StateFlowState T) (before after : StateKnowledge T) (u : ℕ) (r : StateReply T) → AddsOne (IsStateHistory first) before GetValue r after → IsSubscription state_flow before u → IsSubscription state_flow after u
  subscription_after_value first before after u r a old =
      let earlier : StateHistory T = before.seen ++ a.grows.0 in
      let last : HistoryEvent (Said (StateCall T) (StateReply T)) = event before.name a.began (said GetValue r) in
      let whole : IsStateHistory first (earlier ++ last ∷ []) = subst (IsStateHistory first) a.grows.1 a.history in
      let grown = subscription_grows state_flow state_lawful first before.name u before.seen earlier (history_left state_flow first earlier (last ∷ []) whole) (a.grows.0, refl, a.grows.2) old.0 old.1 in
      let there : IsSubscribed state_flow u (earlier ++ last ∷ []) = λ other l.
      subst (state_flow.HasSubscriber u) (sym (after_all-snoc state_flow other earlier last)) (grown.1 other (legal_left state_flow other earlier (last ∷ []) l)) in
      subst (λ (z : List ℕ × StateHistory T). IsGiven state_flow z.0 (subscriber u) z.1 × IsSubscribed state_flow u z.1) (λ i. (sym a.name i, sym a.grows.1 i))
      (given_stays state_flow state_lawful first earlier (last ∷ []) (subscriber u) before.name whole.legal grown.0, there)
