-- The last value that a subscriber of a state flow got stays while its token is silent.
use Rattle.std.proofs.Common.{◌≡◌, ◌≢◌, ℕ, true, false, ◌==◌, cond, List, [], ◌∷◌, ◌++◌, Option, Some, refl, ap, ◌∙◌, ne_eqb}
use Rattle.flow_law.specs.declared.outcome.Next.TheVariants.{Value}
use Rattle.flow_law.specs.declared.call.StateCall.{StateCall}
use Rattle.flow_law.specs.declared.call.StateCall.TheVariants as call
use Rattle.flow_law.specs.declared.call.StateReply.{StateReply}
use Rattle.flow_law.specs.declared.call.StateReply.TheVariants as reply
use Rattle.flow_law.specs.history.Growth.{IsSilent}
use Rattle.flow_law.specs.history.History.{subscriber, IsGiven}
use Rattle.flow_law.specs.flow.StateFlow.{StateSubscriber, StateFlowState, StateHistory, last_got_by, state_flow_after, state_flow_speaks_of, state_flow, state_after_all, IsStateHistory}
use Rattle.flow_law.proofs.Owners.{kept_while_silent}
use Rattle.flow_law.proofs.Rows.{split}
use Rattle.flow_law.proofs.StateLawful.{state_lawful}
use Rattle.flow_law.proofs.StateSubscriberLemmas.{last-with_other, last-without_other}

module _ {T : Type 0} where
  last-kept : (u : ℕ) (us : List (StateSubscriber T)) (v : StateSubscriber T) (last : Option T) → last_got_by u us ≡ Some last → last_got_by u (us ++ v ∷ []) ≡ Some last
  last-kept u [] v last h = absurd (cc)
  last-kept u (w ∷ us) v last h = split (w.number == u) (λ t. cond t (Some w.last) (last_got_by u us) ≡ Some last → cond t (Some w.last) (last_got_by u (us ++ v ∷ [])) ≡ Some last)
      (λ _ e. e) (λ _ e. last-kept u us v last e) h

  apart : (u n : ℕ) (c : ℕ → StateCall T) → state_flow_speaks_of (c n) ≡ Some (subscriber n) → state_flow_speaks_of (c n) ≢ Some (subscriber u) → (n == u) ≡ false
  apart u n c is other = ne_eqb n u (λ e. other (is ∙ ap (λ k. Some (subscriber k)) e))

  -- a call that does not name this subscriber keeps the last value that it got
  last_stays : (u : ℕ) (last : Option T) (s : StateFlowState T) (c : StateCall T) (r : StateReply T) → state_flow_speaks_of c ≢ Some (subscriber u) → last_got_by u s.subscribers ≡ Some last
      → last_got_by u (state_flow_after s c r).subscribers ≡ Some last
  last_stays u last s (call.CompareAndSet a b) (reply.Answered true) other h = h
  last_stays u last s (call.Subscribe given) (reply.Subscribed n) other h = last-kept u s.subscribers _ last h
  last_stays u last s (call.TakeNext n) (reply.Received (Value x)) other h = last-with_other u n x s.subscribers (apart u n call.TakeNext refl other) ∙ h
  last_stays u last s (call.Unsubscribe n) (reply.Answered b) other h = last-without_other u n s.subscribers (apart u n call.Unsubscribe refl other) ∙ h
  last_stays u last s c r other h = h

  -- a token that was given a number, and the last value that the subscriber got in what the token has seen
  pub last_in_silence : (first : StateFlowState T) (u : ℕ) (last : Option T) (name : List ℕ) (h between : StateHistory T) → IsStateHistory first (h ++ between) → IsSilent name between
      → IsGiven state_flow name (subscriber u) h → last_got_by u (state_after_all first h).subscribers ≡ Some last → last_got_by u (state_after_all first (h ++ between)).subscribers ≡ Some last
  last_in_silence first u last name h between is silent given got =
      kept_while_silent state_flow state_lawful u (λ s. last_got_by u s.subscribers ≡ Some last) (last_stays u last) first h between name is.legal is.owned silent given got
