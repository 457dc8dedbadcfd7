-- What a new subscriber receives first: none of its reads lets a queued value in.
use Rattle.std.proofs.Common.{inl, inr, ◌≡◌, ◌⊎◌, ℕ, ◌+◌, ◌≤◌, ◌<◌, Bool, true, false, not, ◌==◌, ◌&&◌, ◌||◌, cond, List, [], ◌∷◌, ◌++◌, drop, Option, Some, None, refl, sym, ap, ◌∙◌, subst, arith, append_assoc, ne_eqb, eq-eqb}
use Rattle.std.specs.Prelude.{nat_le, Err}
use Rattle.std.specs.List.{AllByRecursion, list_any, slice_get}
use Rattle.std.specs.Option.{option_map_or}
use Rattle.std.proofs.lemmas.Bool.{cond_both, cond-true, or_cases, or_left, or_right, and_from, and_left, and_parts}
use Rattle.std.proofs.lemmas.List.{drop_all}
use Rattle.std.proofs.lemmas.List.Folds.{list_any-append}
use Rattle.flow_law.specs.declared.config.Config.{Config}
use Rattle.flow_law.specs.declared.fault.FlowFault.TheVariants.{Exhausted}
use Rattle.flow_law.specs.declared.outcome.Next.{Next}
use Rattle.flow_law.specs.declared.outcome.Next.TheVariants.{Value, Empty, Gone}
use Rattle.flow_law.specs.declared.call.SharedCall.{SharedCall}
use Rattle.flow_law.specs.declared.call.SharedCall.TheVariants.{Subscribe, TakeNext}
use Rattle.flow_law.specs.declared.call.SharedReply.{SharedReply}
use Rattle.flow_law.specs.declared.call.SharedReply.TheVariants.{Subscribed, Received}
use Rattle.flow_law.specs.flow.SharedFlow.{Numbered, Subscriber, SharedFlowState, Replied, answer, first_state, window, lag, is_blocked, is_exhausted, entry, values, position_of, own_of, stand_at, move_to}
use Rattle.flow_law.specs.flow.SharedStep.{admit, settle, enroll, advance, keep_own, next_from, read, next}
use Rattle.flow_law.specs.flow.SharedHistory.{History, IsLegalShared, IsLegalFrom, Replies, shared_flow, is_refused, reply_by, after, shared_after_all, state_after}
use Rattle.flow_law.specs.flow.Mailbox.{found_at_entry, received, received_by}
use Rattle.flow_law.specs.laws.Replaying.{OnlyReads, first_or_empty, EachReplays}
use Rattle.flow_law.proofs.Owners.{legal_right}
use Rattle.flow_law.proofs.ReplyLemmas.{replies_cases}
use Rattle.flow_law.proofs.Rows.{split, absent, any-with_own, position-snoc, position-move_to, position-with_own, own-snoc, own-with_own, own-move_to}
use Rattle.flow_law.proofs.Sound.{Sound, always_sound}
use Rattle.flow_law.proofs.MailboxSteps.{drop_here, past_here, greets}

no_cons : {A : Type 0} (x : A) (xs : List A) → x ∷ xs ≡ [] → ⊥
no_cons x xs e = cc

module _ {T : Type 0} where
  -- ---- reads that let no queued value in

  -- another subscriber than u has a whole window to receive
  abbrev is_behind : ℕ → SharedFlowState T → Subscriber T → Bool
  is_behind u s w = not (w.number == u) && nat_le (window s) (lag s w)

  -- no read of u lets a queued value in
  abbrev Closed : ℕ → SharedFlowState T → Type 0
  Closed u s = (s.queue ≡ []) ⊎ (list_any (is_behind u s) s.subscribers ≡ true)

  behind_blocks : (u : ℕ) (s : SharedFlowState T) (us : List (Subscriber T)) → list_any (is_behind u s) us ≡ true → list_any (λ w. nat_le (window s) (lag s w)) us ≡ true
  behind_blocks u s [] t = t
  behind_blocks u s (w ∷ us) t = elim (or_cases (is_behind u s w) (list_any (is_behind u s) us) t) as (λ _. list_any (λ w. nat_le (window s) (lag s w)) (w ∷ us) ≡ true) [
    | inl far ↦ or_left (nat_le (window s) (lag s w)) (list_any (λ w. nat_le (window s) (lag s w)) us) (and_parts (not (w.number == u)) (nat_le (window s) (lag s w)) far).1
    | inr more ↦ or_right (nat_le (window s) (lag s w)) (list_any (λ w. nat_le (window s) (lag s w)) us) (behind_blocks u s us more)
  ]

  admit_closed : (s : SharedFlowState T) (q : List (Numbered T)) → (q ≡ []) ⊎ (is_blocked s ≡ true) → admit s q ≡ record s { queue = q }
  admit_closed s [] h = refl
  admit_closed s (e ∷ q) h = cond-true (is_blocked s) (record s { queue = e ∷ q }) (admit (record s { emitted = s.emitted ++ e ∷ [] }) q)
      (elim h as (λ _. is_blocked s ≡ true) [ inl none ↦ absurd (no_cons e q none) | inr blocked ↦ blocked ])

  settle_closed : (u : ℕ) (s : SharedFlowState T) → Closed u s → settle s ≡ s
  settle_closed u s h = admit_closed s s.queue (elim h as (λ _. (s.queue ≡ []) ⊎ (is_blocked s ≡ true)) [ inl none ↦ inl none | inr far ↦ inr (behind_blocks u s s.subscribers far) ])

  behind-move_to : (s : SharedFlowState T) (u p : ℕ) (us : List (Subscriber T)) → list_any (is_behind u s) (move_to u p us) ≡ list_any (is_behind u s) us
  behind-move_to s u p [] = refl
  behind-move_to s u p (w ∷ us) = cond_both (w.number == u) (stand_at p w ∷ us) (w ∷ move_to u p us) (λ ws. list_any (is_behind u s) ws ≡ list_any (is_behind u s) (w ∷ us))
      (λ e. let mine : not (w.number == u) ≡ false = ap not e in
      ap (λ b. b || list_any (is_behind u s) us) (and_left (not (w.number == u)) (nat_le (window s) (lag s (stand_at p w))) mine ∙ sym (and_left (not (w.number == u)) (nat_le (window s) (lag s w)) mine)))
      (λ _. ap (λ b. is_behind u s w || b) (behind-move_to s u p us))

  closed_advance : (s : SharedFlowState T) (u p : ℕ) → Closed u s → Closed u (advance u p s)
  closed_advance s u p h = elim h as (λ _. Closed u (advance u p s)) [ inl none ↦ inl none | inr far ↦ inr (behind-move_to s u p s.subscribers ∙ far) ]

  closed_own : (s : SharedFlowState T) (u : ℕ) (own : List T) → Closed u s → Closed u (keep_own u own s)
  closed_own s u own h = elim h as (λ _. Closed u (keep_own u own s)) [ inl none ↦ inl none | inr far ↦ inr (any-with_own (is_behind u s) u own (λ _. refl) s.subscribers ∙ far) ]

  -- ---- one read

  -- these values are left for u, and its reads let no queued value in
  record Reading (u : ℕ) (rest : List T) (s : SharedFlowState T) : Type 0 where
    pub place : ℕ
    pub at : position_of u s.subscribers ≡ Some place
    pub left : own_of u s.subscribers ++ drop place (values s) ≡ rest
    pub closed : Closed u s

  -- `next` answers the first of these values
  abbrev AnswersFirst : ℕ → List T → SharedFlowState T → Replied (Next T) T → Type 0
  AnswersFirst u [] s a = a ≡ answer Empty s
  AnswersFirst u (v ∷ rest) s a = (t : SharedFlowState T) × (a ≡ answer (Value v) t) × Reading u rest t

  next_first : (u : ℕ) (rest : List T) (s : SharedFlowState T) → Reading u rest s → AnswersFirst u rest s (next u s)
  next_first u rest s r = subst (λ l. AnswersFirst u l s (next u s)) r.left (from (own_of u s.subscribers) refl)
    where
      here : (o : Option T) → slice_get (values s) r.place ≡ o → own_of u s.subscribers ≡ []
          → AnswersFirst u (drop r.place (values s)) s (option_map_or (λ value. answer (Value value) (settle (advance u (r.place + 1) s))) o (answer Empty s))
      here None e none = subst (λ l. AnswersFirst u l s (answer Empty s)) (sym (drop_all r.place (values s) (past_here r.place (values s) e))) refl
      here (Some v) e none =
          let closed : Closed u (advance u (r.place + 1) s) = closed_advance s u (r.place + 1) r.closed in
          subst (λ l. AnswersFirst u l s (answer (Value v) (settle (advance u (r.place + 1) s)))) (sym (drop_here r.place (values s) v e)) (
            advance u (r.place + 1) s,
            ap (answer (Value v)) (settle_closed u (advance u (r.place + 1) s) closed),
            record {
              place = r.place + 1;
              at = position-move_to u r.place (r.place + 1) s.subscribers r.at;
              left = ap (λ l. l ++ drop (r.place + 1) (values s)) (own-move_to u u (r.place + 1) s.subscribers ∙ none);
              closed = closed;
            },
          )

      from : (own : List T) → own_of u s.subscribers ≡ own → AnswersFirst u (own ++ drop r.place (values s)) s (next_from u own s)
      from [] e = subst (λ o. AnswersFirst u (drop r.place (values s)) s (option_map_or (λ position. read u position s) o (answer Gone s))) (sym r.at) (here (slice_get (values s) r.place) refl e)
      from (v ∷ own) e = (
        keep_own u own s,
        refl,
        record {
          place = r.place;
          at = position-with_own u u own s.subscribers ∙ r.at;
          left = ap (λ l. l ++ drop r.place (values s)) (own-with_own u r.place own s.subscribers r.at);
          closed = closed_own s u own r.closed;
        },
      )

  -- after an event, these values are those it gave to u and then those still left
  abbrev ReadsOn : ℕ → List T → SharedFlowState T → SharedCall T → SharedReply T → Type 0
  ReadsOn u rest s c r = (more : List T) × (rest ≡ received_by u c r ++ more) × Reading u more (after s c r)

  abbrev AnswerReadsOn : ℕ → List T → SharedFlowState T → Replied (Next T) T → Type 0
  AnswerReadsOn u rest s a = (more : List T) × (rest ≡ received_by u (TakeNext u) (reply_by Received a.reply) ++ more) × Reading u more (cond (is_refused (reply_by Received a.reply)) s a.after)

  answer_reads : (u : ℕ) (rest : List T) (s : SharedFlowState T) (a : Replied (Next T) T) → Reading u rest s → AnswersFirst u rest s a → AnswerReadsOn u rest s a
  answer_reads u [] s a r is = subst (AnswerReadsOn u [] s) (sym is) ([], refl, r)
  answer_reads u (v ∷ rest) s a r is = subst (AnswerReadsOn u (v ∷ rest) s) (sym is.1) (rest, ap (λ l. l ++ rest) (sym (cond-true (u == u) (v ∷ []) [] (eq-eqb u u refl))), is.2)

  event_reads : (u : ℕ) (rest : List T) (s : SharedFlowState T) (r : SharedReply T) → Reading u rest s → Replies s (TakeNext u) r → ReadsOn u rest s (TakeNext u) r
  event_reads u rest s r reading legal = elim (replies_cases s (TakeNext u) r legal) as (λ _. ReadsOn u rest s (TakeNext u) r) [
    | inl e ↦ subst (ReadsOn u rest s (TakeNext u)) (sym e) (answer_reads u rest s (next u s) reading (next_first u rest s reading))
    | inr e ↦ subst (ReadsOn u rest s (TakeNext u)) (sym e.0) (rest, refl, reading)
  ]

  -- ---- all reads

  reads_all : (u : ℕ) (rest : List T) (s : SharedFlowState T) (h : History T) → Reading u rest s → IsLegalFrom s h → OnlyReads u h → (more : List T) × (rest ≡ received u h ++ more) × Reading u more (shared_after_all s h)
  reads_all u rest s [] r legal only = (rest, refl, r)
  reads_all u rest s (e ∷ es) r legal only =
      let step : ReadsOn u rest s e.what.call e.what.reply = subst (λ c. ReadsOn u rest s c e.what.reply) (sym only.0) (event_reads u rest s e.what.reply r (subst (λ c. Replies s c e.what.reply) only.0 legal.0)) in
      let later = reads_all u step.0 (after s e.what.call e.what.reply) es step.2 legal.1 only.1 in
      (later.0, step.1 ∙ ap (λ l. received_by u e.what.call e.what.reply ++ l) later.1 ∙ sym (append_assoc (received_by u e.what.call e.what.reply) (received u es) later.0), later.2)

  gives_first : (u : ℕ) (rest : List T) (s : SharedFlowState T) (r : Next T) → AnswersFirst u rest s (next u s) → Received r ≡ reply_by Received (next u s).reply → r ≡ first_or_empty rest
  gives_first u rest s r = by rest
    where
      same : (a b : Next T) → Received a ≡ Received b → a ≡ b
      same a b e = cc

      by : (rest : List T) → AnswersFirst u rest s (next u s) → Received r ≡ reply_by Received (next u s).reply → r ≡ first_or_empty rest
      by [] is e = same r Empty (e ∙ ap (λ (a : Replied (Next T) T). reply_by Received a.reply) is)
      by (v ∷ rest) is e = same r (Value v) (e ∙ ap (λ (a : Replied (Next T) T). reply_by Received a.reply) is.1)

  -- ---- the entry

  others_behind : (u n : ℕ) (s : SharedFlowState T) (us : List (Subscriber T)) → AllByRecursion (λ w. w.number ≤ n) us → n < u → list_any (λ w. nat_le (window s) (lag s w)) us ≡ true → list_any (is_behind u s) us ≡ true
  others_behind u n s [] h l t = t
  others_behind u n s (w ∷ us) h l t = elim (or_cases (nat_le (window s) (lag s w)) (list_any (λ w. nat_le (window s) (lag s w)) us) t) as (λ _. list_any (is_behind u s) (w ∷ us) ≡ true) [
    | inl far ↦ let other : (w.number == u) ≡ false = ne_eqb w.number u (λ z. omega (arith, h.0, l, z)) in or_left (is_behind u s w) (list_any (is_behind u s) us) (and_from (not (w.number == u)) (nat_le (window s) (lag s w)) (ap not other) far)
    | inr more ↦ or_right (is_behind u s w) (list_any (is_behind u s) us) (others_behind u n s us h.1 l more)
  ]

  entered_reading : (u : ℕ) (first : List T) (s : SharedFlowState T) → Sound s → u ≡ s.issued + 1 → Reading u (first ++ found_at_entry s) (enroll first s)
  entered_reading u first s sound is = record {
    place = entry s;
    at = position-snoc u s.subscribers new gone (sym is);
    left = ap (λ l. l ++ drop (entry s) (values s)) (own-snoc u s.subscribers new gone (sym is)) ∙ ap (λ l. first ++ l) (greets s);
    closed = split (is_blocked s) (λ b. is_blocked s ≡ b → Closed u (enroll first s))
        (λ _ blocked. inr (list_any-append (is_behind u s) s.subscribers (new ∷ []) ∙ or_left (list_any (is_behind u s) s.subscribers) (list_any (is_behind u s) (new ∷ [])) (others_behind u s.issued s s.subscribers sound.placed.issued fresh blocked)))
        (λ _ free. inl (sound.calm.idle free)) refl;
  }
    where
      new : Subscriber T
      new = record { number = s.issued + 1; own = first; position = entry s }

      fresh : s.issued < u
      fresh = omega (arith, is)

      gone : position_of u s.subscribers ≡ None
      gone = absent s.issued u s.subscribers sound.placed.issued fresh

  subscribed_as : (u : ℕ) (s : SharedFlowState T) (name : List ℕ) (first : List T) → Replies s (Subscribe name first) (Subscribed u) → (u ≡ s.issued + 1) × (after s (Subscribe name first) (Subscribed u) ≡ enroll first s)
  subscribed_as u s name first legal = cond_both (is_exhausted s) (record { reply = Err Exhausted; after = s }) (answer (s.issued + 1) (enroll first s))
      (λ a. Subscribed u ≡ reply_by {T = T} Subscribed a.reply → (u ≡ s.issued + 1) × (a.after ≡ enroll first s))
      (λ _ e. absurd (cc)) (λ _ e. (same u (s.issued + 1) (Subscribed u) refl e, refl)) legal
    where
      same : (a b : ℕ) (r : SharedReply T) → r ≡ Subscribed a → r ≡ Subscribed b → a ≡ b
      same a b r first second = cc

  pub replays : (config : Config) (h : History T) → IsLegalShared config h → EachReplays config h
  replays config h legal before reads e u first whole is only =
      let s : SharedFlowState T = state_after config before in
      let t : SharedFlowState T = after s e.what.call e.what.reply in
      let legal_then : Replies s e.what.call e.what.reply × IsLegalFrom t reads = legal_right shared_flow (first_state config) before (e ∷ reads) (subst (IsLegalFrom (first_state config)) whole legal.1) in
      let may : Replies s (Subscribe is.0 first) (Subscribed u) = subst (λ c. Replies s c (Subscribed u)) is.1 (subst (λ r. Replies s e.what.call r) is.2 legal_then.0) in
      let came = subscribed_as u s is.0 first may in
      let entered : t ≡ enroll first s = ap (λ c. after s c e.what.reply) is.1 ∙ ap (λ r. after s (Subscribe is.0 first) r) is.2 ∙ came.1 in
      let start : Reading u (first ++ found_at_entry s) t = subst (Reading u (first ++ found_at_entry s)) (sym entered) (entered_reading u first s (always_sound config before) came.0) in
      let all = reads_all u (first ++ found_at_entry s) t reads start legal_then.1 only in
      record { rest = all.0; in_order = all.1; next = λ r replies. gives_first u all.0 (shared_after_all t reads) r (next_first u all.0 (shared_after_all t reads) all.2) replies }
