-- Shared flows are a lawful kind: each number is given once, and a subscriber stays until it is unsubscribed.
use Rattle.std.proofs.Common.{◌≡◌, ◌≢◌, ℕ, ◌+◌, ◌-◌, ◌≤◌, Bool, true, false, ◌==◌, cond, List, [], ◌∷◌, ◌++◌, length, map, filter, not, Option, Some, None, refl, sym, ap, ◌∙◌, subst, arith, eq-eqb}
use Rattle.std.specs.Prelude.{Err, IsSome, is_some, max}
use Rattle.std.specs.List.{slice_get}
use Rattle.std.specs.Option.{option_map_or}
use Rattle.std.proofs.lemmas.Bool.{cond_both, cond-true}
use Rattle.std.proofs.lemmas.Bool.Decides.{Decides-eqb}
use Rattle.flow_law.specs.declared.fault.FlowFault.TheVariants.{Exhausted}
use Rattle.flow_law.specs.declared.outcome.Emit.{Emit}
use Rattle.flow_law.specs.declared.outcome.Emit.TheVariants.{Done, Queued}
use Rattle.flow_law.specs.declared.outcome.Next.TheVariants.{Value, Empty, Gone}
use Rattle.flow_law.specs.declared.call.SharedCall.{SharedCall}
use Rattle.flow_law.specs.declared.call.SharedCall.TheVariants as call
use Rattle.flow_law.specs.declared.call.SharedReply.{SharedReply}
use Rattle.flow_law.specs.declared.call.SharedReply.TheVariants as reply
use Rattle.flow_law.specs.history.Lawful.{Lawful, Subscribing, IsNew}
use Rattle.flow_law.specs.flow.SharedFlow.{Subscriber, SharedFlowState, Replied, capacity, values, is_exhausted, is_offered_as, answer, issuing, position_of, own_of, stand_at, move_to}
use Rattle.flow_law.specs.flow.EmitRule.{EmitCase, appends, offers, queues, drops_latest, drops_oldest, emit_case, emit_in, append, suspend, drop_oldest}
use Rattle.flow_law.specs.flow.SharedStep.{settle, withdraw, advance, leave, enroll, subscribe, read, next_from, next}
use Rattle.flow_law.specs.flow.SharedHistory.{reply_by, answer_to, is_refused, Replies, after, gives, speaks_of, shared_flow}
use Rattle.flow_law.proofs.Moves.{event_keeps}
use Rattle.flow_law.proofs.NeverBusy.{never_busy}
use Rattle.flow_law.proofs.RefusalLemmas.{subscribe_refused, next_refused}
use Rattle.flow_law.proofs.Boxes.{admit_subscribers}
use Rattle.flow_law.proofs.Rows.{split, position-without_other, position-with_own}
use Rattle.flow_law.proofs.MailboxSteps.{emit_split, try_emit_split}

-- ---- whether there is a subscriber of this number

some-raised : {T : Type 0} (f : Subscriber T → ℕ) (number : ℕ) (us : List (Subscriber T)) → is_some (position_of number (map (λ u. stand_at (f u) u) us)) ≡ is_some (position_of number us)
some-raised f number [] = refl
some-raised f number (u ∷ us) = split (u.number == number)
    (λ t. is_some (cond t (Some (f u)) (position_of number (map (λ u. stand_at (f u) u) us))) ≡ is_some (cond t (Some u.position) (position_of number us)))
    (λ _. refl) (λ _. some-raised f number us)

some-move_to : {T : Type 0} (number other q : ℕ) (us : List (Subscriber T)) → is_some (position_of number (move_to other q us)) ≡ is_some (position_of number us)
some-move_to number other q [] = refl
some-move_to number other q (u ∷ us) = cond_both (u.number == other) (stand_at q u ∷ us) (u ∷ move_to other q us) (λ vs. is_some (position_of number vs) ≡ is_some (position_of number (u ∷ us)))
    (λ _. split (u.number == number) (λ t. is_some (cond t (Some q) (position_of number us)) ≡ is_some (cond t (Some u.position) (position_of number us))) (λ _. refl) (λ _. refl))
    (λ _. split (u.number == number) (λ t. is_some (cond t (Some u.position) (position_of number (move_to other q us))) ≡ is_some (cond t (Some u.position) (position_of number us)))
    (λ _. refl) (λ _. some-move_to number other q us))

some-snoc : {T : Type 0} (number : ℕ) (us : List (Subscriber T)) (v : Subscriber T) → IsSome (position_of number us) → IsSome (position_of number (us ++ v ∷ []))
some-snoc number [] v h = absurd (cc)
some-snoc number (u ∷ us) v h = split (u.number == number)
    (λ t. IsSome (cond t (Some u.position) (position_of number us)) → IsSome (cond t (Some u.position) (position_of number (us ++ v ∷ []))))
    (λ _ _. refl) (λ _ k. some-snoc number us v k) h

some-last : {T : Type 0} (number : ℕ) (us : List (Subscriber T)) (v : Subscriber T) → v.number ≡ number → IsSome (position_of number (us ++ v ∷ []))
some-last number [] v e = ap is_some (cond-true (v.number == number) (Some v.position) None (eq-eqb v.number number e))
some-last number (u ∷ us) v e = split (u.number == number) (λ t. IsSome (cond t (Some u.position) (position_of number (us ++ v ∷ [])))) (λ _. refl) (λ _. some-last number us v e)

module _ {T : Type 0} where
  -- ---- numbers

  settle_issued : (s : SharedFlowState T) → (settle s).issued ≡ s.issued
  settle_issued s = (admit_subscribers s s.queue).2

  withdraw_issued : (e : ℕ) (s : SharedFlowState T) → (withdraw e s).issued ≡ s.issued
  withdraw_issued e s = cond_both (is_offered_as e s) (record s { subscribers = map (stand_at (length s.emitted)) s.subscribers }) (record s { queue = filter (λ q. not (q.number == e)) s.queue })
      (λ (t : SharedFlowState T). t.issued ≡ s.issued) (λ _. refl) (λ _. refl)

  issued_rises : (s : SharedFlowState T) (c : SharedCall T) (r : SharedReply T) → s.issued ≤ (after s c r).issued
  issued_rises s c r = event_keeps (λ t. s.issued ≤ t.issued) s (omega arith) (record {
    appends = λ v _. omega arith;
    suspends = λ v _ _. omega arith;
    drops = λ v _ _. omega arith;
    withdraws = λ e. omega (arith, settle_issued (withdraw e s), withdraw_issued e s);
    advances = λ u p v _ _. omega (arith, settle_issued (advance u (p + 1) s));
    leaves = λ u. omega (arith, settle_issued (leave u s));
    enrolls = λ _. omega arith;
    takes_own = λ _ _ _ _. omega arith;
    forgets = omega arith;
  }) c r

  abbrev Waits : ℕ → SharedFlowState T → Replied Emit T → Type 0
  Waits e s a = ◌≡◌ {A = SharedReply T} (reply.Emitted (Queued e)) (reply_by reply.Emitted a.reply) → (e ≡ s.issued + 1) × (e ≡ a.after.issued)

  issuing_waits : (e : ℕ) (s : SharedFlowState T) (a : Replied Emit T) → Waits e s a → Waits e s (issuing s a)
  issuing_waits e s a w f = cond_both (is_exhausted s) (record { reply = Err Exhausted; after = s }) a (Waits e s) (λ _ f. absurd (cc)) (λ _. w) f

  -- an emission that waits has the next number
  waits : (s : SharedFlowState T) (v : T) (e : ℕ) (m : EmitCase) → Waits e s (emit_in m v s)
  waits s v e appends f = issuing_waits e s (answer Done (append v s)) (λ f. absurd (cc)) f
  waits s v e offers f = issuing_waits e s (answer (Queued (s.issued + 1)) (append v s)) (λ f. (cc, cc)) f
  waits s v e queues f = issuing_waits e s (answer (Queued (s.issued + 1)) (suspend v s)) (λ f. (cc, cc)) f
  waits s v e drops_latest f = absurd (cc)
  waits s v e drops_oldest f = issuing_waits e s (answer Done (drop_oldest (append v s))) (λ f. absurd (cc)) f

  abbrev Enrolls : ℕ → List T → SharedFlowState T → Replied ℕ T → Type 0
  Enrolls u first s a = ◌≡◌ {A = SharedReply T} (reply.Subscribed u) (reply_by reply.Subscribed a.reply) → (u ≡ s.issued + 1) × (a.after ≡ enroll first s)

  -- a new subscriber has the next number
  enrolls : (s : SharedFlowState T) (first : List T) (u : ℕ) → Enrolls u first s (subscribe first s)
  enrolls s first u f = cond_both (is_exhausted s) (record { reply = Err Exhausted; after = s }) (answer (s.issued + 1) (enroll first s)) (Enrolls u first s) (λ _ f. absurd (cc)) (λ _ f. (cc, refl)) f

  gives_new : (s : SharedFlowState T) (name : List ℕ) (c : SharedCall T) (r : SharedReply T) → Replies s c r → IsNew s.issued (gives name c r) (after s c r).issued
  gives_new s name (call.Subscribe given first) (reply.Subscribed u) l =
      let found = enrolls s first u l in
      let now : (subscribe first s).after.issued ≡ s.issued + 1 = ap (λ (t : SharedFlowState T). t.issued) found.1 in
      (omega (arith, found.0), omega (arith, found.0, now))
  gives_new s name (call.Emit v) (reply.Emitted (Queued e)) l =
      let found = waits s v e (emit_case s) l in
      (omega (arith, found.0), omega (arith, found.1))
  gives_new s name c r l = tt

  -- ---- subscribers

  abbrev Has : ℕ → SharedFlowState T → Type 0
  Has u s = IsSome (position_of u s.subscribers)

  settle_has : (u : ℕ) (s : SharedFlowState T) → Has u s → Has u (settle s)
  settle_has u s h = ap (λ us. is_some (position_of u us)) (admit_subscribers s s.queue).0 ∙ h

  raised_has : (u : ℕ) (f : Subscriber T → ℕ) (s : SharedFlowState T) → Has u s → IsSome (position_of u (map (λ v. stand_at (f v) v) s.subscribers))
  raised_has u f s h = some-raised f u s.subscribers ∙ h

  withdraw_has : (u e : ℕ) (s : SharedFlowState T) → Has u s → Has u (withdraw e s)
  withdraw_has u e s h = cond_both (is_offered_as e s) (record s { subscribers = map (stand_at (length s.emitted)) s.subscribers }) (record s { queue = filter (λ q. not (q.number == e)) s.queue })
      (Has u) (λ _. raised_has u (λ _. length s.emitted) s h) (λ _. h)

  dropped_has : (u : ℕ) (v : T) (s : SharedFlowState T) → Has u s → Has u (drop_oldest (append v s))
  dropped_has u v s h = raised_has u (λ w. max w.position (length (append v s).emitted - capacity s)) s h

  advance_has : (u n p : ℕ) (s : SharedFlowState T) → Has u s → Has u (settle (advance n p s))
  advance_has u n p s h = settle_has u (advance n p s) (some-move_to u n p s.subscribers ∙ h)

  -- another one's leaving
  leave_has : (u n : ℕ) (s : SharedFlowState T) → ◌≢◌ {A = SharedCall T} (call.Unsubscribe n) (call.Unsubscribe u) → Has u s → Has u (settle (leave n s))
  leave_has u n s other h = settle_has u (leave n s) (ap is_some (position-without_other u n s.subscribers apart) ∙ h)
    where
      apart : (n == u) ≡ false
      apart = split (n == u) (λ t. (n == u) ≡ t → (n == u) ≡ false) (λ _ e. absurd (other (ap call.Unsubscribe ((Decides-eqb n u).0 e)))) (λ _ e. e) refl

  next_has : (u n : ℕ) (s : SharedFlowState T) → Has u s → Has u (next n s).after
  next_has u n s h = from (own_of n s.subscribers)
    where
      here : (p : ℕ) (o : Option T) → Has u (option_map_or (λ value. answer (Value value) (settle (advance n (p + 1) s))) o (answer Empty s)).after
      here p None = h
      here p (Some v) = advance_has u n (p + 1) s h

      at : (o : Option ℕ) → Has u (option_map_or (λ position. read n position s) o (answer Gone s)).after
      at None = h
      at (Some p) = here p (slice_get (values s) p)

      from : (own : List T) → Has u (next_from n own s).after
      from [] = at (position_of n s.subscribers)
      from (v ∷ own) = subst IsSome (sym (position-with_own u n own s.subscribers)) h

  -- each call keeps a subscriber, except its `unsubscribe`
  answer_has : (u : ℕ) (s : SharedFlowState T) (c : SharedCall T) → c ≢ call.Unsubscribe u → Has u s → Has u (answer_to c s).after
  answer_has u s (call.TryEmit v) other h = try_emit_split (λ a. Has u a.after) s v h (λ _. h) (λ _. dropped_has u v s h) (λ _. h)
  answer_has u s (call.Emit v) other h = emit_split (λ a. Has u a.after) s v h (λ _ _. h) h (λ _. dropped_has u v s h) h
  answer_has u s (call.Poll e) other h = h
  answer_has u s (call.Cancel e) other h = settle_has u (withdraw e s) (withdraw_has u e s h)
  answer_has u s (call.Subscribe name first) other h = cond_both (is_exhausted s) (record { reply = Err Exhausted; after = s }) (answer (s.issued + 1) (enroll first s)) (λ a. Has u a.after)
      (λ _. h) (λ _. some-snoc u s.subscribers _ h)
  answer_has u s (call.TakeNext n) other h = next_has u n s h
  answer_has u s (call.Unsubscribe n) other h = leave_has u n s other h
  answer_has u s call.ReplayCache other h = h
  answer_has u s call.ResetReplayCache other h = h
  answer_has u s call.SubscriptionCount other h = h

  pub event_has : (u : ℕ) (s : SharedFlowState T) (c : SharedCall T) (r : SharedReply T) → c ≢ call.Unsubscribe u → Has u s → Has u (after s c r)
  event_has u s c r other h = cond_both (is_refused r) s (answer_to c s).after (Has u) (λ _. h) (λ _. answer_has u s c other h)

  -- ---- what a subscriber's calls reply

  never_gone : (s : SharedFlowState T) (u : ℕ) → Has u s → Replies s (call.TakeNext u) (reply.Received Gone) → ⊥
  never_gone s u h = not_gone
    where
      here : (p : ℕ) (o : Option T) → ◌≢◌ {A = SharedReply T} (reply.Received Gone) (reply_by reply.Received (option_map_or (λ value. answer (Value value) (settle (advance u (p + 1) s))) o (answer Empty s)).reply)
      here p None f = cc
      here p (Some v) f = cc

      at : (o : Option ℕ) → IsSome o → ◌≢◌ {A = SharedReply T} (reply.Received Gone) (reply_by reply.Received (option_map_or (λ position. read u position s) o (answer Gone s)).reply)
      at None some f = cc
      at (Some p) some f = here p (slice_get (values s) p) f

      from : (own : List T) → ◌≢◌ {A = SharedReply T} (reply.Received Gone) (reply_by reply.Received (next_from u own s).reply)
      from [] f = at (position_of u s.subscribers) h f
      from (v ∷ own) f = cc

      not_gone : ◌≢◌ {A = SharedReply T} (reply.Received Gone) (answer_to (call.TakeNext u) s).reply
      not_gone = from (own_of u s.subscribers)

  was_there : (s : SharedFlowState T) (u : ℕ) (answer : Bool) → Has u s → Replies s (call.Unsubscribe u) (reply.Tested answer) → answer ≡ true
  was_there s u answer h told = let same : answer ≡ is_some (position_of u s.subscribers) = cc in same ∙ h

  -- with own first values, or none
  pub shared_subscribing : (first : List T) → Subscribing shared_flow (λ name. call.Subscribe name first)
  shared_subscribing first = record {
    speaks = λ name. refl;
    gives = λ by name u. refl;
    has = λ s name u l. let found = enrolls s first u l in subst (Has u) (sym found.1) (some-last u s.subscribers _ (sym found.0));
  }

  pub shared_lawful : Lawful (shared_flow {T = T})
  shared_lawful = record {
    issued = λ s. s.issued;
    rises = λ s c r _. issued_rises s c r;
    gives_new = gives_new;
    next_speaks = λ u. refl;
    unsubscribe_speaks = λ u. refl;
    count_speaks = refl;
    subscribing = shared_subscribing [];
    others_keep = λ u s c r other. event_has u s c r (λ e. other (ap speaks_of e));
    next_keeps = λ u s r. event_has u s (call.TakeNext u) r (λ e. absurd (cc));
    never_gone = never_gone;
    was_there = was_there;
    never_busy = never_busy;
    subscribe_refused = λ s name fault. subscribe_refused s fault name [];
    next_refused = λ s u fault. next_refused s fault u;
  }
