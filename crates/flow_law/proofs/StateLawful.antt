-- State flows are a lawful kind: each number is given once, and a subscriber stays until it is unsubscribed.
use Rattle.std.proofs.Common.{inl, inr, ◌≡◌, ◌≢◌, ℕ, ◌+◌, ◌≤◌, Bool, true, false, ◌==◌, cond, List, [], ◌∷◌, ◌++◌, Option, Some, None, refl, ap, ◌∙◌, arith, eq-eqb}
use Rattle.std.specs.Prelude.{IsSome, is_some}
use Rattle.std.proofs.lemmas.Bool.{cond_both, cond-true}
use Rattle.std.proofs.lemmas.Bool.Decides.{Decides-eqb}
use Rattle.flow_law.specs.declared.fault.FlowFault.TheVariants.{Exhausted, Busy}
use Rattle.flow_law.specs.declared.outcome.Next.TheVariants.{Value, Gone}
use Rattle.flow_law.specs.declared.call.StateCall.{StateCall}
use Rattle.flow_law.specs.declared.call.StateCall.TheVariants as call
use Rattle.flow_law.specs.declared.call.StateReply.{StateReply}
use Rattle.flow_law.specs.declared.call.StateReply.TheVariants as reply
use Rattle.flow_law.specs.history.Lawful.{Lawful, IsNew}
use Rattle.flow_law.specs.flow.StateFlow.{StateSubscriber, StateFlowState, last_got_by, with_last, without_subscriber, is_state_exhausted, state_flow_after, Receives, StateFlowReplies, state_flow_gives, state_flow_speaks_of, state_flow}
use Rattle.flow_law.proofs.RefusalLemmas.{state_subscribe_refused, state_next_refused}
use Rattle.flow_law.proofs.Rows.{split}
use Rattle.flow_law.proofs.StateSubscriberLemmas.{last-without_other}

module _ {T : Type 0} where
  -- ---- whether there is a subscriber of this number

  pub some-with_last : (number other : ℕ) (v : T) (us : List (StateSubscriber T)) → is_some (last_got_by number (with_last other v us)) ≡ is_some (last_got_by number us)
  some-with_last number other v [] = refl
  some-with_last number other v (u ∷ us) = cond_both (u.number == other) (record u { last = Some v } ∷ us) (u ∷ with_last other v us) (λ vs. is_some (last_got_by number vs) ≡ is_some (last_got_by number (u ∷ us)))
      (λ _. split (u.number == number) (λ t. is_some (cond t (Some (Some v)) (last_got_by number us)) ≡ is_some (cond t (Some u.last) (last_got_by number us))) (λ _. refl) (λ _. refl))
      (λ _. split (u.number == number) (λ t. is_some (cond t (Some u.last) (last_got_by number (with_last other v us))) ≡ is_some (cond t (Some u.last) (last_got_by number us)))
      (λ _. refl) (λ _. some-with_last number other v us))

  some-snoc : (number : ℕ) (us : List (StateSubscriber T)) (v : StateSubscriber T) → IsSome (last_got_by number us) → IsSome (last_got_by number (us ++ v ∷ []))
  some-snoc number [] v h = absurd (cc)
  some-snoc number (u ∷ us) v h = split (u.number == number)
      (λ t. IsSome (cond t (Some u.last) (last_got_by number us)) → IsSome (cond t (Some u.last) (last_got_by number (us ++ v ∷ []))))
      (λ _ _. refl) (λ _ k. some-snoc number us v k) h

  some-last : (number : ℕ) (us : List (StateSubscriber T)) (v : StateSubscriber T) → v.number ≡ number → IsSome (last_got_by number (us ++ v ∷ []))
  some-last number [] v e = ap is_some (cond-true (v.number == number) (Some v.last) None (eq-eqb v.number number e))
  some-last number (u ∷ us) v e = split (u.number == number) (λ t. IsSome (cond t (Some u.last) (last_got_by number (us ++ v ∷ [])))) (λ _. refl) (λ _. some-last number us v e)

  -- ---- numbers

  -- a new subscriber has the next number
  pub enrolls : (s : StateFlowState T) (given : List ℕ) (u : ℕ) → StateFlowReplies s (call.Subscribe given) (reply.Subscribed u) → u ≡ s.issued + 1
  enrolls s given u l = cond_both (is_state_exhausted s) (reply.Refused Exhausted) (reply.Subscribed (s.issued + 1)) (λ (r : StateReply T). ◌≡◌ {A = StateReply T} (reply.Subscribed u) r → u ≡ s.issued + 1)
      (λ _ e. absurd (cc)) (λ _ e. cc) l

  issued_rises : (s : StateFlowState T) (c : StateCall T) (r : StateReply T) → StateFlowReplies s c r → s.issued ≤ (state_flow_after s c r).issued
  issued_rises s (call.CompareAndSet a b) (reply.Answered true) l = omega arith
  issued_rises s (call.Subscribe given) (reply.Subscribed u) l = omega (arith, enrolls s given u l)
  issued_rises s (call.TakeNext u) (reply.Received (Value x)) l = omega arith
  issued_rises s (call.Unsubscribe u) (reply.Answered b) l = omega arith
  issued_rises s c r l = omega arith

  gives_new : (s : StateFlowState T) (name : List ℕ) (c : StateCall T) (r : StateReply T) → StateFlowReplies s c r → IsNew s.issued (state_flow_gives name c r) (state_flow_after s c r).issued
  gives_new s name (call.Subscribe given) (reply.Subscribed u) l = (omega (arith, enrolls s given u l), omega arith)
  gives_new s name c r l = tt

  -- ---- subscribers

  abbrev Has : ℕ → StateFlowState T → Type 0
  Has u s = IsSome (last_got_by u s.subscribers)

  -- another one's leaving
  leave_has : (u n : ℕ) (us : List (StateSubscriber T)) → ◌≢◌ {A = StateCall T} (call.Unsubscribe n) (call.Unsubscribe u) → IsSome (last_got_by u us) → IsSome (last_got_by u (without_subscriber n us))
  leave_has u n us other h = ap is_some (last-without_other u n us apart) ∙ h
    where
      apart : (n == u) ≡ false
      apart = split (n == u) (λ t. (n == u) ≡ t → (n == u) ≡ false) (λ _ e. absurd (other (ap call.Unsubscribe ((Decides-eqb n u).0 e)))) (λ _ e. e) refl

  -- each call keeps a subscriber, except its `unsubscribe`
  event_has : (u : ℕ) (s : StateFlowState T) (c : StateCall T) (r : StateReply T) → c ≢ call.Unsubscribe u → Has u s → Has u (state_flow_after s c r)
  event_has u s (call.CompareAndSet a b) (reply.Answered true) other h = h
  event_has u s (call.Subscribe given) (reply.Subscribed n) other h = some-snoc u s.subscribers _ h
  event_has u s (call.TakeNext n) (reply.Received (Value x)) other h = some-with_last u n x s.subscribers ∙ h
  event_has u s (call.Unsubscribe n) (reply.Answered b) other h = leave_has u n s.subscribers other h
  event_has u s c r other h = h

  -- ---- what a subscriber's calls reply

  never_gone : (s : StateFlowState T) (u : ℕ) → Has u s → StateFlowReplies s (call.TakeNext u) (reply.Received Gone) → ⊥
  never_gone s u h l = at (last_got_by u s.subscribers) h l
    where
      at : (o : Option (Option T)) → IsSome o → Receives s.value o (reply.Received Gone) → ⊥
      at None some told = cc
      at (Some last) some told = elim told as (λ _. ⊥) [
        | inl empty ↦ absurd (cc (empty.1))
        | inr got ↦ absurd (cc (got.1))
      ]

  was_there : (s : StateFlowState T) (u : ℕ) (answer : Bool) → Has u s → StateFlowReplies s (call.Unsubscribe u) (reply.Answered answer) → answer ≡ true
  was_there s u answer h told = let same : answer ≡ is_some (last_got_by u s.subscribers) = cc in same ∙ h

  received_not_busy : (v : T) (o : Option (Option T)) → Receives v o (reply.Refused Busy) → ⊥
  received_not_busy v None told = cc
  received_not_busy v (Some last) told = elim told as (λ _. ⊥) [
    | inl empty ↦ absurd (cc (empty.1))
    | inr got ↦ absurd (cc (got.1))
  ]

  never_busy : (s : StateFlowState T) (c : StateCall T) → StateFlowReplies s c (reply.Refused Busy) → ⊥
  never_busy s call.GetValue told = cc
  never_busy s (call.Set x) told = cc
  never_busy s (call.TryEmit x) told = cc
  never_busy s (call.CompareAndSet a b) told = elim told as (λ _. ⊥) [
    | inl was ↦ absurd (cc (was.1))
    | inr was ↦ absurd (cc (was.1))
  ]
  never_busy s (call.Subscribe name) told = cond_both (is_state_exhausted s) (reply.Refused Exhausted) (reply.Subscribed (s.issued + 1)) (λ (r : StateReply T). ◌≡◌ {A = StateReply T} (reply.Refused Busy) r → ⊥)
      (λ _ e. absurd (cc)) (λ _ e. absurd (cc)) told
  never_busy s (call.TakeNext u) told = received_not_busy s.value (last_got_by u s.subscribers) told
  never_busy s (call.Unsubscribe u) told = cc
  never_busy s call.SubscriptionCount told = cc
  never_busy s call.ReplayCache told = cc
  never_busy s call.ResetReplayCache told = cc

  pub state_lawful : Lawful (state_flow {T = T})
  state_lawful = record {
    issued = λ s. s.issued;
    rises = issued_rises;
    gives_new = gives_new;
    next_speaks = λ u. refl;
    unsubscribe_speaks = λ u. refl;
    count_speaks = refl;
    subscribing = record {
      speaks = λ name. refl;
      gives = λ by name u. refl;
      has = λ s name u l. some-last u s.subscribers (record { number = u; last = None }) refl;
    };
    others_keep = λ u s c r other. event_has u s c r (λ e. other (ap state_flow_speaks_of e));
    next_keeps = λ u s r. event_has u s (call.TakeNext u) r (λ e. absurd (cc));
    never_gone = never_gone;
    was_there = was_there;
    never_busy = never_busy;
    subscribe_refused = λ s name fault. state_subscribe_refused s fault name;
    next_refused = λ s u fault. state_next_refused s fault u;
  }
