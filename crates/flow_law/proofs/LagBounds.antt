-- No subscriber has more to receive than the window, and the numbers that calls return are those of the state after.
use Rattle.std.proofs.Common.{◌≡◌, ℕ, ◌+◌, ◌-◌, ◌≤◌, ◌<◌, Bool, false, not, ◌==◌, cond, List, [], ◌∷◌, ◌++◌, length, map, Option, Some, None, refl, subst, arith}
use Rattle.std.specs.Prelude.{filter, max, nat_le, Err}
use Rattle.std.specs.List.{AllByRecursion, list_any, slice_get}
use Rattle.std.specs.Option.{option_map_or}
use Rattle.std.proofs.lemmas.Bool.{cond_both, or_parts, leb-false}
use Rattle.std.proofs.lemmas.List.{length_push}
use Rattle.flow_law.specs.declared.config.Config.{Config}
use Rattle.flow_law.specs.declared.outcome.Next.TheVariants.{Value, Empty, Gone}
use Rattle.flow_law.specs.declared.fault.FlowFault.TheVariants.{Exhausted}
use Rattle.flow_law.specs.declared.call.SharedCall.{SharedCall}
use Rattle.flow_law.specs.declared.call.SharedCall.TheVariants as call
use Rattle.flow_law.specs.declared.call.SharedReply.TheVariants as reply
use Rattle.flow_law.specs.flow.SharedFlow.{Numbered, SharedFlowState, first_state, capacity, window, lag, cache_start, entry, values, is_blocked, is_offering, is_offered_as, is_exhausted, answer, stand_at, position_of, own_of}
use Rattle.flow_law.specs.flow.EmitRule.{append, numbered}
use Rattle.flow_law.specs.flow.SharedStep.{settle, withdraw, enroll, advance, leave, read, next_from, next}
use Rattle.flow_law.specs.flow.SharedHistory.{SharedOutcome, outcome_of, answer_to, is_refused, after, History, state_after}
use Rattle.flow_law.proofs.Moves.{Keeps, history_keeps, admit_keeps}
use Rattle.flow_law.proofs.Rows.{every_weaker, every_snoc, every_filter, every_map, every_move, every_with_own, position_holds}
use Rattle.flow_law.proofs.MailboxSteps.{emit_split, try_emit_split}

-- if a test holds of no element, it fails at each
none_holds : {X : Type 0} (test : X → Bool) (xs : List X) → list_any test xs ≡ false → AllByRecursion (λ x. test x ≡ false) xs
none_holds test [] h = tt
none_holds test (x ∷ xs) h = let parts : (test x ≡ false) × (list_any test xs ≡ false) = or_parts _ _ h in (parts.0, none_holds test xs parts.1)

module _ {T : Type 0} where
  abbrev pub Keeping : SharedFlowState T → Type 0
  Keeping s = AllByRecursion (λ u. length s.emitted - u.position ≤ window s) s.subscribers

  one_more : (s : SharedFlowState T) (e : Numbered T) → is_blocked s ≡ false → AllByRecursion (λ u. length (s.emitted ++ e ∷ []) - u.position ≤ window s) s.subscribers
  one_more s e free = every_weaker (λ u. nat_le (window s) (lag s u) ≡ false) (λ u. length (s.emitted ++ e ∷ []) - u.position ≤ window s)
      (λ u k. let room : length s.emitted - u.position < window s = leb-false (window s) (length s.emitted - u.position) k in omega (arith, room, length_push s.emitted e))
      s.subscribers (none_holds _ s.subscribers free)

  settle_keeping : (s : SharedFlowState T) → Keeping s → Keeping (settle s)
  settle_keeping s h = admit_keeps Keeping (λ t e q free _. one_more t e free) s s.queue h

  pub keeping_keeps : (s : SharedFlowState T) → Keeping s → Keeps Keeping s
  keeping_keeps s h = record {
    appends = λ v free. one_more s (numbered v s) free;
    suspends = λ v _ _. h;
    drops = λ v _ _. every_map (λ u. length s.emitted - u.position ≤ window s) (λ u. length (append v s).emitted - u.position ≤ window s)
        (λ u. stand_at (max u.position (length (append v s).emitted - capacity s)) u) (λ u k. omega arith) s.subscribers h;
    withdraws = λ e. settle_keeping (withdraw e s) (cond_both (is_offered_as e s) (record s { subscribers = map (stand_at (length s.emitted)) s.subscribers }) (record s { queue = filter (λ q. not (q.number == e)) s.queue })
        Keeping
        (λ _. every_map (λ u. length s.emitted - u.position ≤ window s) (λ u. length s.emitted - u.position ≤ window s) (stand_at (length s.emitted)) (λ u k. omega arith) s.subscribers h)
        (λ _. h));
    advances = λ u p v at here. settle_keeping (advance u (p + 1) s)
        (let found = position_holds (λ w. length s.emitted - w.position ≤ window s) u p s.subscribers h at in
        let at_p : length s.emitted - p ≤ window s = subst (λ q. length s.emitted - q ≤ window s) found.2 found.3 in
        every_move (λ w. length s.emitted - w.position ≤ window s) u (p + 1) (λ _ _. omega (arith, at_p)) s.subscribers h);
    leaves = λ u. settle_keeping (leave u s) (every_filter (λ w. length s.emitted - w.position ≤ window s) _ s.subscribers h);
    enrolls = λ first. every_snoc (λ w. length s.emitted - w.position ≤ window s) s.subscribers (record { number = s.issued + 1; own = first; position = entry s }) h
        (cond_both (is_offering s) (length s.emitted - 1) (cache_start s) (λ p. length s.emitted - p ≤ window s) (λ _. omega arith) (λ _. omega arith));
    takes_own = λ u v own _. every_with_own (λ w. length s.emitted - w.position ≤ window s) u own (λ _ k. k) s.subscribers h;
    forgets = h;
  }

  pub always_keeping : (config : Config) (h : History T) → Keeping (state_after config h)
  always_keeping config h = history_keeps Keeping keeping_keeps (first_state config) h tt

  -- ---- the state after an answer

  abbrev StateAfterReply : SharedFlowState T → SharedOutcome T → Type 0
  StateAfterReply s t = cond (is_refused t.reply) s t.after ≡ t.after

  after_next : (u : ℕ) (s : SharedFlowState T) → StateAfterReply s (outcome_of reply.Received (next u s))
  after_next u s = from (own_of u s.subscribers)
    where
      here : (p : ℕ) (o : Option T) → StateAfterReply s (outcome_of reply.Received (option_map_or (λ value. answer (Value value) (settle (advance u (p + 1) s))) o (answer Empty s)))
      here p None = refl
      here p (Some v) = refl

      at : (o : Option ℕ) → StateAfterReply s (outcome_of reply.Received (option_map_or (λ position. read u position s) o (answer Gone s)))
      at None = refl
      at (Some p) = here p (slice_get (values s) p)

      from : (own : List T) → StateAfterReply s (outcome_of reply.Received (next_from u own s))
      from [] = at (position_of u s.subscribers)
      from (v ∷ own) = refl

  -- the state after an event with the documented reply is the documented state after the call
  pub after_is : (c : SharedCall T) (s : SharedFlowState T) → after s c (answer_to c s).reply ≡ (answer_to c s).after
  after_is (call.TryEmit v) s = try_emit_split (λ a. StateAfterReply s (outcome_of reply.Tested a)) s v refl (λ _. refl) (λ _. refl) (λ _. refl)
  after_is (call.Emit v) s = emit_split (λ a. StateAfterReply s (outcome_of reply.Emitted a)) s v refl (λ _ _. refl) refl (λ _. refl) refl
  after_is (call.Poll e) s = refl
  after_is (call.Cancel e) s = refl
  after_is (call.Subscribe name first) s = cond_both (is_exhausted s) (record { reply = Err Exhausted; after = s }) (answer (s.issued + 1) (enroll first s)) (λ a. StateAfterReply s (outcome_of reply.Subscribed a)) (λ _. refl) (λ _. refl)
  after_is (call.TakeNext u) s = after_next u s
  after_is (call.Unsubscribe u) s = refl
  after_is call.ReplayCache s = refl
  after_is call.ResetReplayCache s = refl
  after_is call.SubscriptionCount s = refl
