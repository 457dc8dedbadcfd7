-- A subscriber's mailbox after each event.
use Rattle.std.proofs.Common.{inl, inr, ◌≡◌, ℕ, zero, suc, ◌+◌, ◌-◌, ◌≤◌, ◌<◌, Bool, true, false, not, ◌==◌, cond, List, [], ◌∷◌, ◌++◌, length, map, Option, Some, None, refl, sym, ap, ◌∙◌, subst, arith, append_assoc, append-nil}
use Rattle.std.specs.Prelude.{filter, drop, Err, if◌then◌else◌}
use Rattle.std.specs.List.{slice_get}
use Rattle.std.specs.Option.{option_map_or}
use Rattle.std.proofs.lemmas.Bool.{cond_both, and_parts}
use Rattle.std.proofs.lemmas.Bool.Decides.{Decides-eqb}
use Rattle.std.proofs.lemmas.List.{drop_all}
use Rattle.std.proofs.lemmas.Option.{slice_get_past}
use Rattle.flow_law.specs.declared.config.Overflow.{Overflow}
use Rattle.flow_law.specs.declared.config.Overflow.TheVariants.{Suspend, DropOldest, DropLatest}
use Rattle.flow_law.specs.declared.outcome.Emit.{Emit}
use Rattle.flow_law.specs.declared.outcome.Emit.TheVariants.{Done, Queued}
use Rattle.flow_law.specs.declared.outcome.Next.{Next}
use Rattle.flow_law.specs.declared.outcome.Next.TheVariants.{Value, Empty, Gone}
use Rattle.flow_law.specs.declared.fault.FlowFault.{FlowFault}
use Rattle.flow_law.specs.declared.fault.FlowFault.TheVariants.{Exhausted, OutOfMemory}
use Rattle.flow_law.specs.declared.call.SharedCall.{SharedCall}
use Rattle.flow_law.specs.declared.call.SharedCall.TheVariants as call
use Rattle.flow_law.specs.declared.call.SharedReply.{SharedReply}
use Rattle.flow_law.specs.declared.call.SharedReply.TheVariants as reply
use Rattle.flow_law.specs.flow.SharedFlow.{SharedFlowState, Replied, capacity, cache_start, entry, values, cache, is_blocked, is_exhausted, is_offering, is_offered_as, window, stand_at, without, position_of, own_of, Subscriber, answer, issuing}
use Rattle.flow_law.specs.flow.EmitRule.{appends, offers, when_blocked, is_open, emit_case, append, suspend, drop_oldest, emit_in, try_emit_in}
use Rattle.flow_law.specs.flow.SharedStep.{is_waiting, settle, withdraw, enroll, advance, leave, forget, keep_own, next_from, read, next}
use Rattle.flow_law.specs.flow.SharedHistory.{SharedOutcome, outcome_of, answer_to, is_refused, Replies, after}
use Rattle.flow_law.specs.flow.Mailbox.{Mailbox, Beginning, arrivals, with_arrivals, take_first, found_at_entry, before_arrivals, received_by, began_by}
use Rattle.flow_law.proofs.Moves.{open_not_blocked}
use Rattle.flow_law.proofs.ReplyLemmas.{replies_cases}
use Rattle.flow_law.proofs.Rows.{split, absent, position-snoc, position-snoc_other, position-move_to, position-move_to_other, position-without, position-without_other, position-map, position-with_own, own-with_own, own-with_own_other, own-move_to, own-map, own-snoc, own-snoc_other, own-without_other}
use Rattle.flow_law.proofs.Sound.{Placed, Sound, withdraw_placed, advance_placed, leave_placed, here_within, entry_within}
use Rattle.flow_law.proofs.Boxes.{Boxed, settle_boxed, append_boxed, drop_boxed, boxed_same, unfilled, no_arrivals}

none_or_some : {A : Type 0} (a : A) → None ≡ Some a → ⊥
none_or_some a e = cc

same_some : {A : Type 0} (a b : A) → Some a ≡ Some b → a ≡ b
same_some a b e = cc

own_or_none : {X : Type 0} (x : X) (xs : List X) → [] ≡ x ∷ xs → ⊥
own_or_none x xs e = cc

pub drop_here : {X : Type 0} (p : ℕ) (xs : List X) (v : X) → slice_get xs p ≡ Some v → drop p xs ≡ v ∷ drop (p + 1) xs
drop_here p [] v e = absurd (none_or_some v (sym (slice_get_past [] p (omega arith)) ∙ e))
drop_here zero (x ∷ xs) v e = ap (λ y. y ∷ xs) (same_some x v e)
drop_here (suc p) (x ∷ xs) v e = drop_here p xs v e ∙ ap (λ n. v ∷ drop n (x ∷ xs)) (let k : suc (p + 1) ≡ suc p + 1 = omega arith in k)

pub past_here : {X : Type 0} (p : ℕ) (xs : List X) → slice_get xs p ≡ None → length xs ≤ p
past_here p [] e = omega arith
past_here zero (x ∷ xs) e = absurd (none_or_some x (sym e))
past_here (suc p) (x ∷ xs) e = omega (arith, past_here p xs e)

module _ {T : Type 0} where
  pub emit_split : (Q : Replied Emit T → Type 0) (s : SharedFlowState T) (v : T) → Q (record { reply = Err Exhausted; after = s })
      → ((r : Emit) → is_blocked s ≡ false → Q (answer r (append v s)))
      → Q (answer (Queued (s.issued + 1)) (suspend v s))
      → (s.config.overflow ≡ DropOldest → Q (answer Done (drop_oldest (append v s))))
      → Q (answer Done s) → Q (emit_in (emit_case s) v s)
  emit_split Q s v full a b c d = cond_both (is_open s) appends (cond (is_blocked s) (when_blocked s.config.overflow) offers) (λ m. Q (emit_in m v s))
      (λ e. issue (answer Done (append v s)) (a Done (open_not_blocked s e)))
      (λ _. cond_both (is_blocked s) (when_blocked s.config.overflow) offers (λ m. Q (emit_in m v s))
      (λ e. blocked s.config.overflow c)
      (λ e. issue (answer (Queued (s.issued + 1)) (append v s)) (a (Queued (s.issued + 1)) e)))
    where
      issue : (x : Replied Emit T) → Q x → Q (issuing s x)
      issue x q = cond_both (is_exhausted s) (record { reply = Err Exhausted; after = s }) x Q (λ _. full) (λ _. q)

      blocked : (o : Overflow) → (o ≡ DropOldest → Q (answer Done (drop_oldest (append v s)))) → Q (emit_in (when_blocked o) v s)
      blocked Suspend c = cond_both (is_exhausted s) (record { reply = Err Exhausted; after = s }) (answer (Queued (s.issued + 1)) (suspend v s)) Q (λ _. full) (λ _. b)
      blocked DropOldest c = cond_both (is_exhausted s) (record { reply = Err Exhausted; after = s }) (answer Done (drop_oldest (append v s))) Q (λ _. full) (λ _. c refl)
      blocked DropLatest c = d

  pub try_emit_split : (Q : Replied Bool T → Type 0) (s : SharedFlowState T) (v : T) → Q (record { reply = Err Exhausted; after = s })
      → (is_blocked s ≡ false → Q (answer true (append v s)))
      → (s.config.overflow ≡ DropOldest → Q (answer true (drop_oldest (append v s))))
      → ((r : Bool) → Q (answer r s)) → Q (try_emit_in (emit_case s) v s)
  try_emit_split Q s v full a c d = cond_both (is_open s) appends (cond (is_blocked s) (when_blocked s.config.overflow) offers) (λ m. Q (try_emit_in m v s))
      (λ e. issue (answer true (append v s)) (a (open_not_blocked s e)))
      (λ _. cond_both (is_blocked s) (when_blocked s.config.overflow) offers (λ m. Q (try_emit_in m v s))
      (λ e. blocked s.config.overflow c)
      (λ e. d false))
    where
      issue : (x : Replied Bool T) → Q x → Q (issuing s x)
      issue x q = cond_both (is_exhausted s) (record { reply = Err Exhausted; after = s }) x Q (λ _. full) (λ _. q)

      blocked : (o : Overflow) → (o ≡ DropOldest → Q (answer true (drop_oldest (append v s)))) → Q (try_emit_in (when_blocked o) v s)
      blocked Suspend c = d false
      blocked DropOldest c = cond_both (is_exhausted s) (record { reply = Err Exhausted; after = s }) (answer true (drop_oldest (append v s))) Q (λ _. full) (λ _. c refl)
      blocked DropLatest c = d true

  -- after an event with this answer, the mailbox is u's, and u took what it was given
  abbrev pub Good : ℕ → SharedFlowState T → Mailbox T → Beginning T → SharedCall T → SharedReply T → SharedFlowState T → Type 0
  Good u s m b c r t =
      Boxed u t (with_arrivals (window s) (arrivals s t) (before_arrivals u s c r m)) (began_by u s c r b)
      × ((before_arrivals u s c r m).taken ≡ m.taken ++ received_by u c r)

  abbrev pub Stepped : ℕ → SharedFlowState T → Mailbox T → Beginning T → SharedCall T → SharedOutcome T → Type 0
  Stepped u s m b c t = Good u s m b c t.reply (if is_refused t.reply then s else t.after)

  idle : (u : ℕ) (b : Beginning T) (w : ℕ) (s : SharedFlowState T) (m : Mailbox T) → Boxed u s m b → Boxed u s (with_arrivals w (drop (length s.emitted) (values s)) m) b × (m.taken ≡ m.taken ++ [])
  idle u b w s m h = (subst (λ n. Boxed u s n b) (sym (unfilled w s m)) h, sym (append-nil m.taken))

  refused_good : (u : ℕ) (b : Beginning T) (s : SharedFlowState T) (m : Mailbox T) (f : FlowFault) (c : SharedCall T) → Boxed u s m b → Good u s m b c (reply.Refused f) s
  refused_good u b s m f (call.TryEmit v) h = idle u b (window s) s m h
  refused_good u b s m f (call.Emit v) h = idle u b (window s) s m h
  refused_good u b s m f (call.Poll e) h = idle u b (window s) s m h
  refused_good u b s m f (call.Cancel e) h = idle u b (window s) s m h
  refused_good u b s m f (call.Subscribe name first) h = idle u b (window s) s m h
  refused_good u b s m f (call.TakeNext n) h = idle u b (window s) s m h
  refused_good u b s m f (call.Unsubscribe n) h = idle u b (window s) s m h
  refused_good u b s m f call.ReplayCache h = idle u b (window s) s m h
  refused_good u b s m f call.ResetReplayCache h = idle u b (window s) s m h
  refused_good u b s m f call.SubscriptionCount h = idle u b (window s) s m h

  -- the log stays, and so does the box
  quiet : (u : ℕ) (b : Beginning T) (s t : SharedFlowState T) (m : Mailbox T) → Boxed u t m b → values t ≡ values s → Boxed u t (with_arrivals (window s) (arrivals s t) m) b
  quiet u b s t m h e = subst (λ n. Boxed u t n b) (sym (ap (λ l. with_arrivals (window s) (drop (length s.emitted) l) m) e ∙ unfilled (window s) s m)) h

  pub greets : (s : SharedFlowState T) → drop (entry s) (values s) ≡ found_at_entry s
  greets s = split (is_offering s) (λ t. drop (cond t (length s.emitted - 1) (cache_start s)) (values s) ≡ cond t (drop (length s.emitted - 1) (values s)) (cache s)) (λ _. refl) (λ _. refl)

  subscribed : (u : ℕ) (b : Beginning T) (s : SharedFlowState T) (m : Mailbox T) (name : List ℕ) (first : List T) → Placed s → Boxed u s m b
      → Good u s m b (call.Subscribe name first) (reply.Subscribed (s.issued + 1)) (enroll first s)
  subscribed u b s m name first placed h = split (s.issued + 1 == u)
      (λ t. Boxed u (enroll first s) (with_arrivals (window s) (arrivals s (enroll first s)) (cond t (record m { own = first; box = found_at_entry s }) m)) (cond t (record { first = first; entry = entry s }) b)
      × ((cond t (record m { own = first; box = found_at_entry s }) m).taken ≡ m.taken ++ []))
      (λ e. let is : s.issued + 1 ≡ u = (Decides-eqb (s.issued + 1) u).0 e in
      let fresh : s.issued < u = omega (arith, is) in
      let gone : position_of u s.subscribers ≡ None = absent s.issued u s.subscribers placed.issued fresh in
      let new : Subscriber T = record { number = s.issued + 1; own = first; position = entry s } in
      let at : position_of u (enroll first s).subscribers ≡ Some (entry s) = position-snoc u s.subscribers new gone is in (
        quiet u (record { first = first; entry = entry s }) s (enroll first s) (record m { own = first; box = found_at_entry s }) (record {
          own = λ _ _. own-snoc u s.subscribers new gone is;
          rest = λ p e2. ap (λ n. drop n (values s)) (sym (same_some (entry s) p (sym at ∙ e2))) ∙ greets s;
          whole = λ _ _ p e2. (ap (λ l. l ++ (first ++ found_at_entry s)) (h.fresh fresh) ∙ ap (λ l. first ++ l) (sym (greets s)), entry_within s placed.reset_mark);
          fresh = λ l. absurd (omega (arith, l, is));
        }) refl,
        sym (append-nil m.taken),
      ))
      (λ e. (
        quiet u b s (enroll first s) m (boxed_same u b s (enroll first s) m h refl refl (omega arith)
            (λ p at. sym (position-snoc_other u s.subscribers (record { number = s.issued + 1; own = first; position = entry s }) e) ∙ at)
            (own-snoc_other u s.subscribers (record { number = s.issued + 1; own = first; position = entry s }) e)) refl,
        sym (append-nil m.taken),
      ))

  -- a value that the subscriber received is no longer in its box
  took : (u : ℕ) (b : Beginning T) (p : ℕ) (v : T) (s : SharedFlowState T) (m : Mailbox T) → Placed s → own_of u s.subscribers ≡ [] → position_of u s.subscribers ≡ Some p → slice_get (values s) p ≡ Some v → Boxed u s m b
      → Boxed u (advance u (p + 1) s) (take_first m.taken m.own m.box) b × ((take_first m.taken m.own m.box).taken ≡ m.taken ++ v ∷ [])
  took u b p v s m placed none at here h =
      let was : m.box ≡ v ∷ drop (p + 1) (values s) = sym (h.rest p at) ∙ drop_here p (values s) v here in
      let no_own : m.own ≡ [] = sym (h.own p at) ∙ none in
      let now : take_first m.taken m.own m.box ≡ record { taken = m.taken ++ v ∷ []; own = []; box = drop (p + 1) (values s) } = ap (λ o. take_first m.taken o m.box) no_own ∙ ap (take_first m.taken []) was in
      let moved : position_of u (advance u (p + 1) s).subscribers ≡ Some (p + 1) = position-move_to u p (p + 1) s.subscribers at in (
        subst (λ n. Boxed u (advance u (p + 1) s) n b) (sym now) (record {
          own = λ _ _. own-move_to u u (p + 1) s.subscribers ∙ none;
          rest = λ q e. ap (λ n. drop n (values s)) (same_some q (p + 1) (sym e ∙ moved));
          whole = λ o c q e. let w = h.whole o c p at in
              (append_assoc m.taken (v ∷ []) (drop (p + 1) (values s)) ∙ ap (λ l. m.taken ++ l) (sym was) ∙ ap (λ l. m.taken ++ (l ++ m.box)) (sym no_own) ∙ w.0, w.1);
          fresh = λ l. absurd (none_or_some p (sym (absent s.issued u s.subscribers placed.issued l) ∙ at));
        }),
        ap (λ (n : Mailbox T). n.taken) now,
      )

  own_without_place : (u : ℕ) (us : List (Subscriber T)) → position_of u us ≡ None → own_of u us ≡ []
  own_without_place u [] e = refl
  own_without_place u (w ∷ us) e = split (w.number == u) (λ t. cond t (Some w.position) (position_of u us) ≡ None → cond t w.own (own_of u us) ≡ [])
      (λ _ e. absurd (cc)) (λ _ e. own_without_place u us e) e

  -- a subscriber with own values left is subscribed
  owner_stands : (u : ℕ) (us : List (Subscriber T)) (v : T) (own : List T) → own_of u us ≡ v ∷ own → (p : ℕ) × (position_of u us ≡ Some p)
  owner_stands u us v own e = at (position_of u us) refl
    where
      at : (o : Option ℕ) → position_of u us ≡ o → (p : ℕ) × (position_of u us ≡ Some p)
      at None f = absurd (own_or_none v own (sym (own_without_place u us f) ∙ e))
      at (Some p) f = (p, f)

  -- an own value that the subscriber received is no longer left
  took_own : (u : ℕ) (b : Beginning T) (v : T) (own : List T) (s : SharedFlowState T) (m : Mailbox T) → Placed s → own_of u s.subscribers ≡ v ∷ own → Boxed u s m b
      → Boxed u (keep_own u own s) (take_first m.taken m.own m.box) b × ((take_first m.taken m.own m.box).taken ≡ m.taken ++ v ∷ [])
  took_own u b v own s m placed mine h =
      let there = owner_stands u s.subscribers v own mine in
      let p : ℕ = there.0 in
      let at : position_of u s.subscribers ≡ Some p = there.1 in
      let was : m.own ≡ v ∷ own = sym (h.own p at) ∙ mine in
      let now : take_first m.taken m.own m.box ≡ record { taken = m.taken ++ v ∷ []; own = own; box = m.box } = ap (λ o. take_first m.taken o m.box) was in
      let same : (q : ℕ) → position_of u (keep_own u own s).subscribers ≡ Some q → position_of u s.subscribers ≡ Some q = λ q e. sym (position-with_own u u own s.subscribers) ∙ e in (
        subst (λ n. Boxed u (keep_own u own s) n b) (sym now) (record {
          own = λ _ _. own-with_own u p own s.subscribers at;
          rest = λ q e. h.rest q (same q e);
          whole = λ o c q e. let w = h.whole o c q (same q e) in
              (append_assoc m.taken (v ∷ []) (own ++ m.box) ∙ ap (λ l. m.taken ++ (l ++ m.box)) (sym was) ∙ w.0, w.1);
          fresh = λ l. absurd (none_or_some p (sym (absent s.issued u s.subscribers placed.issued l) ∙ at));
        }),
        ap (λ (n : Mailbox T). n.taken) now,
      )

  abbrev pub ReadGood : ℕ → ℕ → SharedFlowState T → Mailbox T → Beginning T → Replied (Next T) T → Type 0
  ReadGood n u s m b a = Stepped u s m b (call.TakeNext n) (outcome_of reply.Received a)

  read_good : (n u : ℕ) (b : Beginning T) (p : ℕ) (s : SharedFlowState T) (m : Mailbox T) → Sound s → Boxed u s m b → own_of n s.subscribers ≡ [] → position_of n s.subscribers ≡ Some p → ReadGood n u s m b (read n p s)
  read_good n u b p s m sound h none_own at = found (slice_get (values s) p) refl
    where
      empty : slice_get (values s) p ≡ None → ReadGood n u s m b (answer Empty s)
      empty none = split (n == u)
          (λ t. Boxed u s (with_arrivals (window s) (arrivals s s) (cond t (take_first m.taken m.own m.box) m)) b × ((cond t (take_first m.taken m.own m.box) m).taken ≡ m.taken ++ []))
          (λ e. let same : position_of u s.subscribers ≡ Some p = subst (λ k. position_of k s.subscribers ≡ Some p) ((Decides-eqb n u).0 e) at in
          let no_box : m.box ≡ [] = sym (h.rest p same) ∙ drop_all p (values s) (past_here p (values s) none) in
          let no_own : m.own ≡ [] = sym (h.own p same) ∙ subst (λ k. own_of k s.subscribers ≡ []) ((Decides-eqb n u).0 e) none_own in
          let unchanged : take_first m.taken m.own m.box ≡ m = ap (λ o. take_first m.taken o m.box) no_own ∙ ap (take_first m.taken []) no_box
          ∙ ap (λ l. record m { own = []; box = l }) (sym no_box) ∙ ap (λ o. record m { own = o }) (sym no_own) in
          subst (λ (k : Mailbox T). Boxed u s (with_arrivals (window s) (arrivals s s) k) b × (k.taken ≡ m.taken ++ [])) (sym unchanged) (idle u b (window s) s m h))
          (λ _. idle u b (window s) s m h)

      value : (v : T) → slice_get (values s) p ≡ Some v → ReadGood n u s m b (answer (Value v) (settle (advance n (p + 1) s)))
      value v here = split (n == u)
          (λ t. Boxed u (settle (advance n (p + 1) s)) (with_arrivals (window s) (arrivals s (settle (advance n (p + 1) s))) (cond t (take_first m.taken m.own m.box) m)) b
          × ((cond t (take_first m.taken m.own m.box) m).taken ≡ m.taken ++ cond t (v ∷ []) []))
          (λ e. let is : n ≡ u = (Decides-eqb n u).0 e in
          let same : position_of u s.subscribers ≡ Some p = subst (λ k. position_of k s.subscribers ≡ Some p) is at in
          let t = took u b p v s m sound.placed (subst (λ k. own_of k s.subscribers ≡ []) is none_own) same here h in
          subst (λ k. Boxed u (settle (advance k (p + 1) s)) (with_arrivals (window s) (arrivals s (settle (advance k (p + 1) s))) (take_first m.taken m.own m.box)) b
          × ((take_first m.taken m.own m.box).taken ≡ m.taken ++ v ∷ [])) (sym is)
          (settle_boxed u b (advance u (p + 1) s) (take_first m.taken m.own m.box) (advance_placed u (p + 1) s (here_within s p v here) sound.placed) t.0, t.1))
          (λ e. (
            settle_boxed u b (advance n (p + 1) s) m (advance_placed n (p + 1) s (here_within s p v here) sound.placed)
                (boxed_same u b s (advance n (p + 1) s) m h refl refl (omega arith) (λ q e2. sym (position-move_to_other u n (p + 1) s.subscribers e) ∙ e2)
                (own-move_to u n (p + 1) s.subscribers)),
            sym (append-nil m.taken),
          ))

      found : (o : Option T) → slice_get (values s) p ≡ o → ReadGood n u s m b (option_map_or (λ value. answer (Value value) (settle (advance n (p + 1) s))) o (answer Empty s))
      found None e = empty e
      found (Some v) e = value v e

  own_good : (n u : ℕ) (b : Beginning T) (v : T) (own : List T) (s : SharedFlowState T) (m : Mailbox T) → Sound s → Boxed u s m b → own_of n s.subscribers ≡ v ∷ own → ReadGood n u s m b (answer (Value v) (keep_own n own s))
  own_good n u b v own s m sound h mine = split (n == u)
      (λ t. Boxed u (keep_own n own s) (with_arrivals (window s) (arrivals s (keep_own n own s)) (cond t (take_first m.taken m.own m.box) m)) b
      × ((cond t (take_first m.taken m.own m.box) m).taken ≡ m.taken ++ cond t (v ∷ []) []))
      (λ e. let is : n ≡ u = (Decides-eqb n u).0 e in
      let t = took_own u b v own s m sound.placed (subst (λ k. own_of k s.subscribers ≡ v ∷ own) is mine) h in
      subst (λ k. Boxed u (keep_own k own s) (with_arrivals (window s) (arrivals s (keep_own k own s)) (take_first m.taken m.own m.box)) b
      × ((take_first m.taken m.own m.box).taken ≡ m.taken ++ v ∷ [])) (sym is)
      (quiet u b s (keep_own u own s) (take_first m.taken m.own m.box) t.0 refl, t.1))
      (λ e. (
        quiet u b s (keep_own n own s) m (boxed_same u b s (keep_own n own s) m h refl refl (omega arith)
            (λ q e2. sym (position-with_own u n own s.subscribers) ∙ e2) (own-with_own_other u n own s.subscribers e)) refl,
        sym (append-nil m.taken),
      ))

  next_good : (n u : ℕ) (b : Beginning T) (s : SharedFlowState T) (m : Mailbox T) → Sound s → Boxed u s m b → ReadGood n u s m b (next n s)
  next_good n u b s m sound h = from (own_of n s.subscribers) refl
    where
      found : own_of n s.subscribers ≡ [] → (o : Option ℕ) → position_of n s.subscribers ≡ o → ReadGood n u s m b (option_map_or (λ position. read n position s) o (answer Gone s))
      found none None e = idle u b (window s) s m h
      found none (Some p) e = read_good n u b p s m sound h none e

      from : (own : List T) → own_of n s.subscribers ≡ own → ReadGood n u s m b (next_from n own s)
      from [] e = found e (position_of n s.subscribers) refl
      from (v ∷ own) e = own_good n u b v own s m sound h e

  abbrev raised : SharedFlowState T → SharedFlowState T
  raised s = record s { subscribers = map (stand_at (length s.emitted)) s.subscribers }

  abbrev dequeued : ℕ → SharedFlowState T → SharedFlowState T
  dequeued e s = record s { queue = filter (λ q. not (q.number == e)) s.queue }

  raised_boxed : (u : ℕ) (b : Beginning T) (s : SharedFlowState T) (m : Mailbox T) → (capacity s == 0) ≡ true → Boxed u s m b → Boxed u (raised s) (record m { box = [] }) b
  raised_boxed u b s m none h = record {
    own = λ q e. let found = position-map (λ _. length s.emitted) u q s.subscribers e in own-map (λ _. length s.emitted) u s.subscribers ∙ h.own found.0 found.1;
    rest = λ q e. let found = position-map (λ _. length s.emitted) u q s.subscribers e in ap (λ n. drop n (values s)) (sym found.2) ∙ no_arrivals s;
    whole = λ o c. absurd (omega (arith, c, (Decides-eqb (capacity s) 0).0 none));
    fresh = h.fresh;
  }

  cancel_good : (e u : ℕ) (b : Beginning T) (r : Bool) (s : SharedFlowState T) (m : Mailbox T) → Sound s → Boxed u s m b → Good u s m b (call.Cancel e) (reply.Tested r) (settle (withdraw e s))
  cancel_good e u b r s m sound h = split (is_offered_as e s)
      (λ t. Placed (cond t (raised s) (dequeued e s)) →
      Boxed u (settle (cond t (raised s) (dequeued e s))) (with_arrivals (window s) (arrivals s (settle (cond t (raised s) (dequeued e s)))) (cond t (record m { box = [] }) m)) b
      × ((cond t (record m { box = [] }) m).taken ≡ m.taken ++ []))
      (λ was placed. (settle_boxed u b (raised s) (record m { box = [] }) placed (raised_boxed u b s m (and_parts _ _ (and_parts _ _ was).0).0 h), sym (append-nil m.taken)))
      (λ _ placed. (settle_boxed u b (dequeued e s) m placed (boxed_same u b s (dequeued e s) m h refl refl (omega arith) (λ q at. at) refl), sym (append-nil m.taken)))
      (withdraw_placed e s sound.placed)

  leave_good : (n u : ℕ) (b : Beginning T) (s : SharedFlowState T) (m : Mailbox T) → Sound s → Boxed u s m b → Boxed u (settle (leave n s)) (with_arrivals (window s) (arrivals s (settle (leave n s))) m) b
  leave_good n u b s m sound h = settle_boxed u b (leave n s) m (leave_placed n s sound.placed) (record {
    own = λ q at. own-without_other u n s.subscribers (other q at) ∙ h.own q (back q at);
    rest = λ q at. h.rest q (back q at);
    whole = λ o c q at. h.whole o c q (back q at);
    fresh = h.fresh;
  })
    where
      other : (q : ℕ) → position_of u (without n s.subscribers) ≡ Some q → (n == u) ≡ false
      other q at = split (n == u) (λ t. (n == u) ≡ t → (n == u) ≡ false)
          (λ e _. absurd (none_or_some q (sym (position-without u s.subscribers) ∙ subst (λ k. position_of u (without k s.subscribers) ≡ Some q) ((Decides-eqb n u).0 e) at)))
          (λ _ e. e) refl

      back : (q : ℕ) → position_of u (without n s.subscribers) ≡ Some q → position_of u s.subscribers ≡ Some q
      back q at = sym (position-without_other u n s.subscribers (other q at)) ∙ at

  -- each answer of the documented flow
  pub answer_good : (u : ℕ) (b : Beginning T) (s : SharedFlowState T) (m : Mailbox T) → Sound s → (s.config.overflow ≡ DropOldest → 0 < capacity s) → Boxed u s m b → (c : SharedCall T) → Stepped u s m b c (answer_to c s)
  answer_good u b s m sound usable h (call.TryEmit v) = try_emit_split (λ a. Stepped u s m b (call.TryEmit v) (outcome_of reply.Tested a)) s v
      (idle u b (window s) s m h)
      (λ free. (append_boxed u b s v m sound.placed free h, sym (append-nil m.taken)))
      (λ o. (drop_boxed u b s v m sound.placed o (usable o) h, sym (append-nil m.taken)))
      (λ r. idle u b (window s) s m h)
  answer_good u b s m sound usable h (call.Emit v) = emit_split (λ a. Stepped u s m b (call.Emit v) (outcome_of reply.Emitted a)) s v
      (idle u b (window s) s m h)
      (λ r free. (append_boxed u b s v m sound.placed free h, sym (append-nil m.taken)))
      (quiet u b s (suspend v s) m (boxed_same u b s (suspend v s) m h refl refl (omega arith) (λ p at. at) refl) refl, sym (append-nil m.taken))
      (λ o. (drop_boxed u b s v m sound.placed o (usable o) h, sym (append-nil m.taken)))
      (idle u b (window s) s m h)
  answer_good u b s m sound usable h (call.Poll e) = idle u b (window s) s m h
  answer_good u b s m sound usable h (call.Cancel e) = cancel_good e u b (is_waiting e s) s m sound h
  answer_good u b s m sound usable h (call.Subscribe name first) = cond_both (is_exhausted s) (record { reply = Err Exhausted; after = s }) (answer (s.issued + 1) (enroll first s))
      (λ a. Stepped u s m b (call.Subscribe name first) (outcome_of reply.Subscribed a))
      (λ _. idle u b (window s) s m h)
      (λ _. subscribed u b s m name first sound.placed h)
  answer_good u b s m sound usable h (call.TakeNext n) = next_good n u b s m sound h
  answer_good u b s m sound usable h (call.Unsubscribe n) = (leave_good n u b s m sound h, sym (append-nil m.taken))
  answer_good u b s m sound usable h call.ReplayCache = idle u b (window s) s m h
  answer_good u b s m sound usable h call.ResetReplayCache = (quiet u b s (forget s) m (boxed_same u b s (forget s) m h refl refl (omega arith) (λ p at. at) refl) refl, sym (append-nil m.taken))
  answer_good u b s m sound usable h call.SubscriptionCount = idle u b (window s) s m h

  -- each legal reply, `OutOfMemory` included
  pub event_good : (u : ℕ) (b : Beginning T) (s : SharedFlowState T) (m : Mailbox T) → Sound s → (s.config.overflow ≡ DropOldest → 0 < capacity s) → Boxed u s m b
      → (c : SharedCall T) (r : SharedReply T) → Replies s c r → Good u s m b c r (after s c r)
  event_good u b s m sound usable h c r legal = elim (replies_cases s c r legal) as (λ _. Good u s m b c r (after s c r)) [
    | inl e ↦ subst (λ k. Good u s m b c k (after s c k)) (sym e) (answer_good u b s m sound usable h c)
    | inr e ↦ subst (λ k. Good u s m b c k (after s c k)) (sym e.0) (refused_good u b s m OutOfMemory c h)
  ]
