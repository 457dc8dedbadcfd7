-- What one event does to a subscriber's place, and which of the flow's values it gives: `event_passes`.
use Rattle.std.proofs.Common.{inl, inr, ◌≡◌, ℕ, ◌+◌, ◌-◌, ◌≤◌, ◌<◌, ◌⊎◌, true, false, not, ◌==◌, ◌&&◌, cond, List, [], ◌∷◌, length, map, Option, Some, None, refl, sym, ap, ◌∙◌, subst, arith, ne_eqb}
use Rattle.std.specs.Prelude.{max, filter, Err}
use Rattle.std.specs.List.{slice_get}
use Rattle.std.specs.Option.{option_map_or}
use Rattle.std.proofs.lemmas.Bool.{cond_both, cond-true, cond-false, and_parts, and_from, and_left}
use Rattle.std.proofs.lemmas.Bool.Decides.{Decides-eqb}
use Rattle.flow_law.specs.declared.config.Overflow.TheVariants.{DropOldest}
use Rattle.flow_law.specs.declared.outcome.Next.{Next}
use Rattle.flow_law.specs.declared.outcome.Next.TheVariants.{Value, Empty, Gone}
use Rattle.flow_law.specs.declared.fault.FlowFault.TheVariants.{Exhausted}
use Rattle.flow_law.specs.declared.call.SharedCall.{SharedCall}
use Rattle.flow_law.specs.declared.call.SharedCall.TheVariants as call
use Rattle.flow_law.specs.declared.call.SharedReply.{SharedReply}
use Rattle.flow_law.specs.declared.call.SharedReply.TheVariants as reply
use Rattle.flow_law.specs.flow.SharedFlow.{SharedFlowState, Replied, capacity, entry, values, is_exhausted, is_offered_as, position_of, own_of, stand_at, without, answer}
use Rattle.flow_law.specs.flow.EmitRule.{append, suspend, drop_oldest}
use Rattle.flow_law.specs.flow.SharedStep.{settle, withdraw, advance, leave, enroll, keep_own, next_from, read, next}
use Rattle.flow_law.specs.flow.SharedHistory.{reply_by, answer_to, is_refused, Replies, after}
use Rattle.flow_law.specs.flow.Mailbox.{Beginning, began_by}
use Rattle.flow_law.specs.laws.Waiting.{from_flow_by}
use Rattle.flow_law.proofs.ReplyLemmas.{replies_cases}
use Rattle.flow_law.proofs.Rows.{split, absent, position-snoc, position-snoc_other, position-move_to, position-move_to_other, position-without, position-without_other, position-map, position-with_own}
use Rattle.flow_law.proofs.Sound.{Placed}
use Rattle.flow_law.proofs.Boxes.{admit_subscribers, admit_values, admitted, log_from_values, stands_within}
use Rattle.flow_law.proofs.MailboxSteps.{emit_split, try_emit_split}

none_or_some : {A : Type 0} (a : A) → None ≡ Some a → ⊥
none_or_some a e = cc

same_some : {A : Type 0} (a b : A) → Some a ≡ Some b → a ≡ b
same_some a b e = cc

longer_not_empty : {A : Type 0} (x : A) (xs ys : List A) → ys ≡ x ∷ xs → (length ys == 0) ≡ false
longer_not_empty x xs ys e = let count : length ys ≡ length (x ∷ xs) = ap length e in ne_eqb (length ys) 0 (λ z. omega (arith, count, z))

module _ {T : Type 0} where
  -- the flow may take values away from a subscriber: it drops the oldest, or has no buffer
  abbrev pub MaySkip : SharedFlowState T → Type 0
  MaySkip s = (s.config.overflow ≡ DropOldest) ⊎ (capacity s ≡ 0)

  -- u, which is now at q, entered, stayed, skipped values, or read one
  pub data Moved (u : ℕ) (s t : SharedFlowState T) (got : List T) (begin : Beginning T → Beginning T) (q : ℕ) : Type 0 where
    enters : s.issued < u → q ≡ entry s → got ≡ [] → ((b : Beginning T) → (begin b).entry ≡ entry s) → Moved u s t got begin q
    stays : position_of u s.subscribers ≡ Some q → got ≡ [] → ((b : Beginning T) → begin b ≡ b) → Moved u s t got begin q
    skips : (p : ℕ) → position_of u s.subscribers ≡ Some p → p ≤ q → q ≤ max p (length t.emitted - capacity s) → MaySkip s → got ≡ [] → ((b : Beginning T) → begin b ≡ b) → Moved u s t got begin q
    reads : (p : ℕ) (v : T) → position_of u s.subscribers ≡ Some p → slice_get (values s) p ≡ Some v → q ≡ p + 1 → got ≡ v ∷ [] → ((b : Beginning T) → begin b ≡ b) → Moved u s t got begin q

  pub record Passes (u : ℕ) (s t : SharedFlowState T) (got : List T) (begin : Beginning T → Beginning T) : Type 0 where
    pub place : (q : ℕ) → position_of u t.subscribers ≡ Some q → Moved u s t got begin q
    -- a subscriber that has not entered yet gets nothing
    pub early : s.issued < u → got ≡ []

  abbrev Quiet : ℕ → SharedFlowState T → SharedFlowState T → Type 0
  Quiet u s t = Passes u s t [] (λ b. b)

  same_row : (u : ℕ) (s t : SharedFlowState T) → t.subscribers ≡ s.subscribers → Quiet u s t
  same_row u s t e = record { place = λ q at. stays (ap (position_of u) (sym e) ∙ at) refl (λ _. refl); early = λ _. refl }

  settled : (u : ℕ) (s t : SharedFlowState T) → ((q : ℕ) → position_of u t.subscribers ≡ Some q → Moved u s (settle t) [] (λ b. b) q) → Quiet u s (settle t)
  settled u s t f = record { place = λ q at. f q (ap (position_of u) (sym (admit_subscribers t t.queue).0) ∙ at); early = λ _. refl }

  dropped : (u : ℕ) (s : SharedFlowState T) (v : T) → s.config.overflow ≡ DropOldest → Quiet u s (drop_oldest (append v s))
  dropped u s v o = record {
    place = λ q at. let found = position-map (λ p. max p (length (append v s).emitted - capacity s)) u q s.subscribers at in
        skips found.0 found.1 (omega (arith, found.2)) (omega (arith, found.2)) (inl o) refl (λ _. refl);
    early = λ _. refl;
  }

  offer_ended : (u e : ℕ) (s : SharedFlowState T) → Placed s → is_offered_as e s ≡ true → Quiet u s (settle (record s { subscribers = map (stand_at (length s.emitted)) s.subscribers }))
  offer_ended u e s placed was =
      let t : SharedFlowState T = record s { subscribers = map (stand_at (length s.emitted)) s.subscribers } in
      let none : capacity s ≡ 0 = (Decides-eqb (capacity s) 0).0 (and_parts _ _ (and_parts _ _ was).0).0 in
      settled u s t (λ q at. let found = position-map (λ _. length s.emitted) u q s.subscribers at in
      let within = stands_within u found.0 s placed found.1 in
      let more : length s.emitted ≤ length (settle t).emitted = log_from_values t (settle t) (admitted t t.queue) (admit_values t t.queue) in
      skips found.0 found.1 (omega (arith, found.2, within)) (omega (arith, found.2, none, more)) (inr none) refl (λ _. refl))

  withdrawn : (u e : ℕ) (s : SharedFlowState T) → Placed s → Quiet u s (settle (withdraw e s))
  withdrawn u e s placed = split (is_offered_as e s)
      (λ t. Quiet u s (settle (cond t (record s { subscribers = map (stand_at (length s.emitted)) s.subscribers }) (record s { queue = filter (λ q. not (q.number == e)) s.queue }))))
      (λ was. offer_ended u e s placed was)
      (λ _. settled u s (record s { queue = filter (λ q. not (q.number == e)) s.queue }) (λ q at. stays at refl (λ _. refl)))

  left : (u n : ℕ) (s : SharedFlowState T) → Quiet u s (settle (leave n s))
  left u n s = settled u s (leave n s) (λ q at. split (n == u) (λ t. (n == u) ≡ t → Moved u s (settle (leave n s)) [] (λ b. b) q)
      (λ e _. absurd (none_or_some q (sym (position-without u s.subscribers) ∙ subst (λ k. position_of u (without k s.subscribers) ≡ Some q) ((Decides-eqb n u).0 e) at)))
      (λ e _. stays (sym (position-without_other u n s.subscribers e) ∙ at) refl (λ _. refl)) refl)

  came : (u : ℕ) (s : SharedFlowState T) (name : List ℕ) (first : List T) → Placed s → Passes u s (enroll first s) [] (began_by u s (call.Subscribe name first) (reply.Subscribed (s.issued + 1)))
  came u s name first placed = split (s.issued + 1 == u) (λ t. Passes u s (enroll first s) [] (λ b. cond t (record { first = first; entry = entry s }) b))
      (λ e. let is : s.issued + 1 ≡ u = (Decides-eqb (s.issued + 1) u).0 e in
      let fresh : s.issued < u = omega (arith, is) in
      let at_entry : position_of u (enroll first s).subscribers ≡ Some (entry s) = position-snoc u s.subscribers (record { number = s.issued + 1; own = first; position = entry s }) (absent s.issued u s.subscribers placed.issued fresh) is in
      record { place = λ q at. enters fresh (sym (same_some (entry s) q (sym at_entry ∙ at))) refl (λ _. refl); early = λ _. refl })
      (λ e. record { place = λ q at. stays (sym (position-snoc_other u s.subscribers (record { number = s.issued + 1; own = first; position = entry s }) e) ∙ at) refl (λ _. refl); early = λ _. refl })

  -- ---- next

  abbrev NextPasses : ℕ → ℕ → SharedFlowState T → Replied (Next T) T → Type 0
  NextPasses u n s a = Passes u s (cond (is_refused (reply_by reply.Received a.reply)) s a.after) (from_flow_by u s (call.TakeNext n) (reply_by reply.Received a.reply)) (λ b. b)

  read_passes : (u n p : ℕ) (v : T) (s : SharedFlowState T) → Placed s → own_of n s.subscribers ≡ [] → position_of n s.subscribers ≡ Some p → slice_get (values s) p ≡ Some v
      → NextPasses u n s (answer (Value v) (settle (advance n (p + 1) s)))
  read_passes u n p v s placed none at here = split (n == u) (λ t. (n == u) ≡ t → NextPasses u n s (answer (Value v) (settle (advance n (p + 1) s))))
      (λ e _. let is : n ≡ u = (Decides-eqb n u).0 e in
      let mine : position_of u s.subscribers ≡ Some p = subst (λ k. position_of k s.subscribers ≡ Some p) is at in
      let no_own : (length (own_of u s.subscribers) == 0) ≡ true = ap (λ (l : List T). length l == 0) (subst (λ k. own_of k s.subscribers ≡ []) is none) in
      let moved : position_of u (advance n (p + 1) s).subscribers ≡ Some (p + 1) = subst (λ k. position_of u (advance k (p + 1) s).subscribers ≡ Some (p + 1)) (sym is) (position-move_to u p (p + 1) s.subscribers mine) in
      record {
        place = λ q now. reads p v mine here (same_some q (p + 1) (sym now ∙ ap (position_of u) (admit_subscribers (advance n (p + 1) s) s.queue).0 ∙ moved))
            (cond-true ((n == u) && (length (own_of u s.subscribers) == 0)) (v ∷ []) [] (and_from _ _ e no_own)) (λ _. refl);
        early = λ l. absurd (none_or_some p (sym (absent s.issued u s.subscribers placed.issued l) ∙ mine));
      })
      (λ e _. let nothing : from_flow_by u s (call.TakeNext n) (reply.Received (Value v)) ≡ [] = cond-false ((n == u) && (length (own_of u s.subscribers) == 0)) (v ∷ []) [] (and_left _ _ e) in
      record {
        place = λ q now. stays (sym (position-move_to_other u n (p + 1) s.subscribers e) ∙ ap (position_of u) (sym (admit_subscribers (advance n (p + 1) s) s.queue).0) ∙ now) nothing (λ _. refl);
        early = λ _. nothing;
      }) refl

  own_passes : (u n : ℕ) (v : T) (own : List T) (s : SharedFlowState T) → own_of n s.subscribers ≡ v ∷ own → NextPasses u n s (answer (Value v) (keep_own n own s))
  own_passes u n v own s mine =
      let nothing : from_flow_by u s (call.TakeNext n) (reply.Received (Value v)) ≡ [] = cond-false ((n == u) && (length (own_of u s.subscribers) == 0)) (v ∷ []) [] (split (n == u) (λ t. (t && (length (own_of u s.subscribers) == 0)) ≡ false)
      (λ e. longer_not_empty v own (own_of u s.subscribers) (subst (λ k. own_of k s.subscribers ≡ v ∷ own) ((Decides-eqb n u).0 e) mine)) (λ _. refl)) in
      record { place = λ q at. stays (sym (position-with_own u n own s.subscribers) ∙ at) nothing (λ _. refl); early = λ _. nothing }

  next_passes : (u n : ℕ) (s : SharedFlowState T) → Placed s → NextPasses u n s (next n s)
  next_passes u n s placed = from (own_of n s.subscribers) refl
    where
      here : own_of n s.subscribers ≡ [] → (p : ℕ) → position_of n s.subscribers ≡ Some p → (o : Option T) → slice_get (values s) p ≡ o
          → NextPasses u n s (option_map_or (λ value. answer (Value value) (settle (advance n (p + 1) s))) o (answer Empty s))
      here none p at None e = same_row u s s refl
      here none p at (Some v) e = read_passes u n p v s placed none at e

      found : own_of n s.subscribers ≡ [] → (o : Option ℕ) → position_of n s.subscribers ≡ o → NextPasses u n s (option_map_or (λ position. read n position s) o (answer Gone s))
      found none None e = same_row u s s refl
      found none (Some p) e = here none p e (slice_get (values s) p) refl

      from : (own : List T) → own_of n s.subscribers ≡ own → NextPasses u n s (next_from n own s)
      from [] e = found e (position_of n s.subscribers) refl
      from (v ∷ own) e = own_passes u n v own s e

  -- ---- each event

  abbrev SubscribePasses : ℕ → SharedFlowState T → List ℕ → List T → Replied ℕ T → Type 0
  SubscribePasses u s name first a = Passes u s (cond (is_refused {T = T} (reply_by reply.Subscribed a.reply)) s a.after) [] (began_by u s (call.Subscribe name first) (reply_by reply.Subscribed a.reply))

  any_reply : (u : ℕ) (s : SharedFlowState T) (c : SharedCall T) (r : SharedReply T) → Quiet u s (answer_to c s).after → Quiet u s (after s c r)
  any_reply u s c r h = cond_both (is_refused r) s (answer_to c s).after (Quiet u s) (λ _. same_row u s s refl) (λ _. h)

  abbrev pub EventPasses : ℕ → SharedFlowState T → SharedCall T → SharedReply T → Type 0
  EventPasses u s c r = Passes u s (after s c r) (from_flow_by u s c r) (began_by u s c r)

  pub event_passes : (u : ℕ) (s : SharedFlowState T) → Placed s → (c : SharedCall T) (r : SharedReply T) → Replies s c r → EventPasses u s c r
  event_passes u s placed (call.TryEmit v) r legal = any_reply u s (call.TryEmit v) r (try_emit_split (λ a. Quiet u s a.after) s v (same_row u s s refl) (λ _. same_row u s (append v s) refl) (λ o. dropped u s v o) (λ _. same_row u s s refl))
  event_passes u s placed (call.Emit v) r legal = any_reply u s (call.Emit v) r (emit_split (λ a. Quiet u s a.after) s v (same_row u s s refl) (λ _ _. same_row u s (append v s) refl) (same_row u s (suspend v s) refl) (λ o. dropped u s v o) (same_row u s s refl))
  event_passes u s placed (call.Poll e) r legal = any_reply u s (call.Poll e) r (same_row u s s refl)
  event_passes u s placed (call.Cancel e) r legal = any_reply u s (call.Cancel e) r (withdrawn u e s placed)
  event_passes u s placed (call.Subscribe name first) r legal = elim (replies_cases s (call.Subscribe name first) r legal) as (λ _. EventPasses u s (call.Subscribe name first) r) [
    | inl e ↦ subst (λ k. EventPasses u s (call.Subscribe name first) k) (sym e)
        (cond_both (is_exhausted s) (record { reply = Err Exhausted; after = s }) (answer (s.issued + 1) (enroll first s))
        (SubscribePasses u s name first) (λ _. same_row u s s refl) (λ _. came u s name first placed))
    | inr e ↦ subst (λ k. EventPasses u s (call.Subscribe name first) k) (sym e.0) (same_row u s s refl)
  ]
  event_passes u s placed (call.TakeNext n) r legal = elim (replies_cases s (call.TakeNext n) r legal) as (λ _. EventPasses u s (call.TakeNext n) r) [
    | inl e ↦ subst (λ k. EventPasses u s (call.TakeNext n) k) (sym e) (next_passes u n s placed)
    | inr e ↦ subst (λ k. EventPasses u s (call.TakeNext n) k) (sym e.0) (same_row u s s refl)
  ]
  event_passes u s placed (call.Unsubscribe n) r legal = any_reply u s (call.Unsubscribe n) r (left u n s)
  event_passes u s placed call.ReplayCache r legal = any_reply u s call.ReplayCache r (same_row u s s refl)
  event_passes u s placed call.ResetReplayCache r legal = any_reply u s call.ResetReplayCache r (same_row u s (answer_to call.ResetReplayCache s).after refl)
  event_passes u s placed call.SubscriptionCount r legal = any_reply u s call.SubscriptionCount r (same_row u s s refl)
