-- A subscriber of a state flow with nothing to receive has nothing to receive until the value is set.
use Rattle.std.proofs.Common.{inl, inr, ◌≡◌, ◌≢◌, ℕ, Bool, true, false, ◌==◌, cond, List, [], ◌∷◌, ◌++◌, Option, Some, None, refl, sym, ap, subst}
use Rattle.std.specs.Prelude.{IsSome}
use Rattle.std.proofs.lemmas.Bool.Decides.{Decides-eqb}
use Rattle.flow_law.specs.declared.outcome.Next.TheVariants.{Value, Empty}
use Rattle.flow_law.specs.declared.call.StateCall.{StateCall}
use Rattle.flow_law.specs.declared.call.StateCall.TheVariants as call
use Rattle.flow_law.specs.declared.call.StateReply.{StateReply}
use Rattle.flow_law.specs.declared.call.StateReply.TheVariants as reply
use Rattle.flow_law.specs.declared.touch.Touch.{Touch}
use Rattle.flow_law.specs.declared.touch.Touch.TheVariants as touch
use Rattle.flow_law.specs.history.Sleeping.{FindsNothing, Sleeping}
use Rattle.flow_law.specs.flow.StateFlow.{StateSubscriber, StateFlowState, last_got_by, state_flow_after, Receives, StateFlowReplies, state_flow}
use Rattle.flow_law.proofs.Rows.{split}
use Rattle.flow_law.proofs.StateSubscriberLemmas.{last-with_other, last-without_other}

pub never : ◌≡◌ {A = Bool} false true → ⊥
never e = cc

module _ {T : Type 0} where
  -- whom a call may wake
  abbrev pub touches : StateCall T → StateReply T → Touch
  touches (call.Set x) r = touch.Subscribers
  touches (call.TryEmit x) r = touch.Subscribers
  touches (call.CompareAndSet a b) (reply.Answered true) = touch.Subscribers
  touches (call.Unsubscribe u) r = touch.Subscriber u
  touches _ _ = touch.NoSleeper

  -- a new subscriber does not change the last value of one that is subscribed
  last-snoc_some : (number : ℕ) (us : List (StateSubscriber T)) (v : StateSubscriber T) → IsSome (last_got_by number us) → last_got_by number (us ++ v ∷ []) ≡ last_got_by number us
  last-snoc_some number [] v h = absurd (cc)
  last-snoc_some number (u ∷ us) v h = split (u.number == number)
      (λ t. IsSome (cond t (Some u.last) (last_got_by number us)) → cond t (Some u.last) (last_got_by number (us ++ v ∷ [])) ≡ cond t (Some u.last) (last_got_by number us))
      (λ _ _. refl) (λ _ k. last-snoc_some number us v k) h

  there : (v : T) (o : Option (Option T)) → Receives v o (reply.Received Empty) → IsSome o
  there v None f = absurd (cc)
  there v (Some last) f = refl

  -- a `next` that may reply Empty may not reply a value
  not_both : (v x : T) (o : Option (Option T)) → Receives v o (reply.Received Empty) → Receives v o (reply.Received (Value x)) → ⊥
  not_both v x None f g = cc
  not_both v x (Some last) f g = elim f as (λ _. ⊥) [
    | inl empty ↦ elim g as (λ _. ⊥) [
      | inl also ↦ absurd (cc (also.1))
      | inr got ↦ got.0 empty.0
    ]
    | inr got ↦ absurd (cc (got.1))
  ]

  pub stays : (u : ℕ) (s : StateFlowState T) (c : StateCall T) (r : StateReply T) → StateFlowReplies s c r → touches c r ≢ touch.Subscriber u → touches c r ≢ touch.Subscribers
      → FindsNothing state_flow u s → FindsNothing state_flow u (state_flow_after s c r)
  stays u s (call.Set x) r told others unset f = absurd (unset refl)
  stays u s (call.TryEmit x) r told others unset f = absurd (unset refl)
  stays u s (call.CompareAndSet a b) (reply.Answered true) told others unset f = absurd (unset refl)
  stays u s (call.Subscribe given) (reply.Subscribed n) told others unset f =
      subst (λ o. Receives s.value o (reply.Received Empty)) (sym (last-snoc_some u s.subscribers _ (there s.value (last_got_by u s.subscribers) f))) f
  stays u s (call.TakeNext n) (reply.Received (Value x)) told others unset f =
      split (n == u) (λ t. (n == u) ≡ t → FindsNothing state_flow u (state_flow_after s (call.TakeNext n) (reply.Received (Value x))))
      (λ same _. absurd (not_both s.value x (last_got_by u s.subscribers) f (subst (λ m. Receives s.value (last_got_by m s.subscribers) (reply.Received (Value x))) ((Decides-eqb n u).0 same) told)))
      (λ other _. subst (λ o. Receives s.value o (reply.Received Empty)) (sym (last-with_other u n x s.subscribers other)) f) refl
  stays u s (call.Unsubscribe n) (reply.Answered b) told others unset f =
      split (n == u) (λ t. (n == u) ≡ t → FindsNothing state_flow u (state_flow_after s (call.Unsubscribe n) (reply.Answered b)))
      (λ same _. absurd (others (ap touch.Subscriber ((Decides-eqb n u).0 same))))
      (λ other _. subst (λ o. Receives s.value o (reply.Received Empty)) (sym (last-without_other u n s.subscribers other)) f) refl
  stays u s c r told others unset f = f

  abbrev pub state_sleeping : Sleeping (state_flow {T = T})
  state_sleeping = record {
    mark = λ s. 0;
    waits = λ e s. false;
    first_waiting = λ s. None;
    touches = touches;
    next_touches = λ u r. refl;
    subscribe_touches = λ name r. refl;
    unsubscribe_touches = λ u r. refl;
    count_touches = λ r. refl;
    stays = λ u s c r told others unset _ f. stays u s c r told others unset f;
    found = λ u s f. f;
    IsSound = λ s. Unit {0};
    begins = λ s may. tt;
    keeps = λ s c r h. tt;
    goes_on = λ e s c r h others waits first. absurd (never waits);
    first_first = λ e s h waits. absurd (never waits);
  }
