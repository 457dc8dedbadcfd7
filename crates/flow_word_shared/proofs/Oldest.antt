-- The documented shared flow that drops values and has a buffer, call by call. Begin with `Stands` of specs/Steps: a subscriber's place is
-- where it stood last, unless the buffer has moved on.
use Rattle.std.proofs.Common.{◌≡◌, ◌≢◌, ℕ, suc, ◌+◌, ◌-◌, ◌≤◌, ◌<◌, false, not, ◌==◌, ◌&&◌, cond, List, [], ◌∷◌, ◌++◌, length, map, Option, Some, None, refl, sym, ap, ◌∙◌, subst, arith, ne_eqb}
use Rattle.std.specs.Prelude.{max, filter, Err}
use Rattle.std.specs.List.{slice_get, list_any}
use Rattle.std.specs.Option.{option_map_or}
use Rattle.std.proofs.lemmas.Bool.{cond_both, cond-false}
use Rattle.std.proofs.lemmas.List.{length_push}
use Rattle.std.proofs.lemmas.Option.{slice_get_past}
use Rattle.flow_law.specs.declared.config.Config.{Config}
use Rattle.flow_law.specs.declared.config.Overflow.{Overflow}
use Rattle.flow_law.specs.declared.config.Overflow.TheVariants.{Suspend, DropOldest, DropLatest}
use Rattle.flow_law.specs.declared.fault.FlowFault.TheVariants.{Exhausted}
use Rattle.flow_law.specs.declared.outcome.Next.TheVariants.{Value, Empty, Gone}
use Rattle.flow_law.specs.declared.call.SharedCall.{SharedCall}
use Rattle.flow_law.specs.declared.call.SharedCall.TheVariants as call
use Rattle.flow_law.specs.declared.call.SharedReply.{SharedReply}
use Rattle.flow_law.specs.history.Growth.{IsSilent}
use Rattle.flow_law.specs.history.History.{subscriber, IsGiven}
use Rattle.flow_law.specs.declared.states.Numbered.{Numbered}
use Rattle.flow_law.specs.declared.states.Subscriber.{Subscriber}
use Rattle.flow_law.specs.declared.states.SharedFlowState.{SharedFlowState}
use Rattle.flow_law.specs.flow.SharedFlow.{first_state, capacity, window, lag, values, is_blocked, is_offering, is_offered_as, newest, is_exhausted, answer, position_of, own_of, stand_at, move_to}
use Rattle.flow_law.specs.flow.EmitRule.{numbered, append, suspend, drop_oldest}
use Rattle.flow_law.specs.flow.SharedStep.{admit, settle, withdraw, advance, leave, enroll, keep_own, read, next_from, next}
use Rattle.flow_law.specs.flow.SharedHistory.{History, answer_to, is_refused, after, state_after, speaks_of, shared_flow, IsSharedHistory}
use Rattle.flow_law.proofs.Boxes.{length_values}
use Rattle.flow_law.proofs.Growing.{event_grown, history_grown}
use Rattle.flow_law.proofs.Moves.{event_keeps}
use Rattle.flow_law.proofs.Owners.{kept_while_silent}
use Rattle.flow_law.proofs.Queue.{OnlySuspends}
use Rattle.flow_law.proofs.Rows.{split, position-move_to, position-move_to_other, position-without_other, position-with_own, lag_below, own-with_own_other, own-move_to, own-map, own-without_other}
use Rattle.flow_law.proofs.SharedLawful.{shared_lawful}
use Rattle.flow_law.proofs.Sound.{Sound, sound_keeps, always_sound}
use Rattle.flow_law.proofs.MailboxSteps.{emit_split, try_emit_split}
use Rattle.flow_word_shared.specs.Steps.{Stands}

some_same : {A : Type 0} (a b : A) → Some a ≡ Some b → a ≡ b
some_same a b e = cc

-- ---- rows of subscribers

module _ {T : Type 0} where
  position-raised : (f : ℕ → ℕ) (number p : ℕ) (us : List (Subscriber T)) → position_of number us ≡ Some p → position_of number (map (λ u. stand_at (f u.position) u) us) ≡ Some (f p)
  position-raised f number p [] e = absurd (cc)
  position-raised f number p (u ∷ us) e = split (u.number == number)
      (λ t. cond t (Some u.position) (position_of number us) ≡ Some p → cond t (Some (f u.position)) (position_of number (map (λ u. stand_at (f u.position) u) us)) ≡ Some (f p))
      (λ _ e. ap (λ n. Some (f n)) (some_same u.position p e)) (λ _ e. position-raised f number p us e) e

  position-kept : (number p : ℕ) (us : List (Subscriber T)) (v : Subscriber T) → position_of number us ≡ Some p → position_of number (us ++ v ∷ []) ≡ Some p
  position-kept number p [] v e = absurd (cc)
  position-kept number p (u ∷ us) v e = split (u.number == number)
      (λ t. cond t (Some u.position) (position_of number us) ≡ Some p → cond t (Some u.position) (position_of number (us ++ v ∷ [])) ≡ Some p)
      (λ _ e. e) (λ _ e. position-kept number p us v e) e

  own-kept : (number p : ℕ) (us : List (Subscriber T)) (v : Subscriber T) → position_of number us ≡ Some p → own_of number (us ++ v ∷ []) ≡ own_of number us
  own-kept number p [] v e = absurd (cc)
  own-kept number p (u ∷ us) v e = split (u.number == number)
      (λ t. cond t (Some u.position) (position_of number us) ≡ Some p → cond t u.own (own_of number (us ++ v ∷ [])) ≡ cond t u.own (own_of number us))
      (λ _ _. refl) (λ _ e. own-kept number p us v e) e

  pub length-move_to : (number p : ℕ) (us : List (Subscriber T)) → length (move_to number p us) ≡ length us
  length-move_to number p [] = refl
  length-move_to number p (u ∷ us) = cond_both (u.number == number) (stand_at p u ∷ us) (u ∷ move_to number p us) (λ vs. length vs ≡ suc (length us))
      (λ _. refl) (λ _. ap suc (length-move_to number p us))

-- ---- a state of a flow that drops values

-- only a flow that suspends has a queue
queue_none : {X : Type 0} (o : Overflow) (q : List X) → o ≢ Suspend → OnlySuspends o q → q ≡ []
queue_none Suspend q ne h = absurd (ne refl)
queue_none DropOldest q ne h = h
queue_none DropLatest q ne h = h

not_behind : (p n k b most : ℕ) → k ≡ n + 1 → 0 < b → most ≡ b → p ≤ n → n - max p (n - b) < max most 1 → max p (n - b) ≡ max p (k - b)
not_behind p n k b most e pos is low h = omega arith

raised : (p n k b most : ℕ) → k ≡ n + 1 → most ≡ b → max (max p (n - b)) (k - most) ≡ max p (k - b)
raised p n k b most e is = omega arith

module _ (T : Type 0) (config : Config) (drops : config.overflow ≢ Suspend) (buffer : 0 < config.replay + config.extra) where
  abbrev c : ℕ
  c = config.replay + config.extra

  pub record Usual (s : SharedFlowState T) : Type 0 where
    pub config_is : s.config ≡ config
    pub sound : Sound s

  pub usual_after : (h : History T) → Usual (state_after config h)
  usual_after h = record { config_is = (history_grown (first_state config) h).config; sound = always_sound config h }

  pub overflow_is : (s : SharedFlowState T) → Usual s → s.config.overflow ≡ config.overflow
  overflow_is s h = ap (λ (g : Config). g.overflow) h.config_is

  pub suspends_not : (s : SharedFlowState T) → Usual s → s.config.overflow ≢ Suspend
  suspends_not s h e = drops (sym (overflow_is s h) ∙ e)

  pub capacity_is : (s : SharedFlowState T) → Usual s → capacity s ≡ c
  capacity_is s h = ap (λ (g : Config). g.replay + g.extra) h.config_is

  pub no_queue : (s : SharedFlowState T) → Usual s → s.queue ≡ []
  no_queue s h = queue_none s.config.overflow s.queue (suspends_not s h) h.sound.calm.fits

  pub settle_still : (s : SharedFlowState T) → s.queue ≡ [] → settle s ≡ record s { queue = [] }
  settle_still s e = ap (admit s) e

  pub not_offering : (s : SharedFlowState T) → Usual s → is_offering s ≡ false
  not_offering s h = let is = capacity_is s h in ap (λ b. b && list_any (λ u. lag s u == 1) s.subscribers) (ne_eqb (capacity s) 0 (λ e. absurd (omega (arith, e, is, buffer))))

  -- ---- where a subscriber stands after a call that does not name it

  module _ (u p : ℕ) where
    abbrev pub At : SharedFlowState T → Type 0
    At = Stands u p c

    at_same : (s t : SharedFlowState T) → t.emitted ≡ s.emitted → position_of u t.subscribers ≡ position_of u s.subscribers → own_of u t.subscribers ≡ own_of u s.subscribers → At s → At t
    at_same s t log place own h = record {
      place = place ∙ h.place ∙ ap (λ (l : List (Numbered T)). Some (max p (length l - c))) (sym log);
      own = own ∙ h.own;
      within = subst (λ (l : List (Numbered T)). p ≤ length l) (sym log) h.within;
    }

    at_settled : (s t : SharedFlowState T) → t.queue ≡ [] → t.emitted ≡ s.emitted → position_of u t.subscribers ≡ position_of u s.subscribers → own_of u t.subscribers ≡ own_of u s.subscribers → At s → At (settle t)
    at_settled s t none log place own h = subst At (sym (settle_still t none)) (at_same s (record t { queue = [] }) log place own h)

    at_append : (s : SharedFlowState T) (v : T) → Usual s → is_blocked s ≡ false → At s → At (append v s)
    at_append s v us free h =
        let room : length s.emitted - max p (length s.emitted - c) < window s = lag_below (window s) (length s.emitted) u (max p (length s.emitted - c)) s.subscribers free h.place in
        let more : length (s.emitted ++ numbered v s ∷ []) ≡ length s.emitted + 1 = length_push s.emitted (numbered v s) in record {
          place = h.place ∙ ap Some (not_behind p (length s.emitted) (length (append v s).emitted) c (capacity s) more buffer (capacity_is s us) h.within room);
          own = h.own;
          within = omega (arith, h.within, more);
        }

    at_drop : (s : SharedFlowState T) (v : T) → Usual s → At s → At (drop_oldest (append v s))
    at_drop s v us h =
        let more : length (s.emitted ++ numbered v s ∷ []) ≡ length s.emitted + 1 = length_push s.emitted (numbered v s) in
        let f : ℕ → ℕ = λ q. max q (length (append v s).emitted - capacity s) in record {
          place = position-raised f u (max p (length s.emitted - c)) s.subscribers h.place ∙ ap Some (raised p (length s.emitted) (length (append v s).emitted) c (capacity s) more (capacity_is s us));
          own = own-map f u s.subscribers ∙ h.own;
          within = omega (arith, h.within, more);
        }

    apart : (n : ℕ) (make : ℕ → SharedCall T) → speaks_of (make n) ≡ Some (subscriber n) → speaks_of (make n) ≢ Some (subscriber u) → (n == u) ≡ false
    apart n make is other = ne_eqb n u (λ e. other (is ∙ ap (λ k. Some (subscriber k)) e))

    next_other : (n : ℕ) (s : SharedFlowState T) → Usual s → (n == u) ≡ false → At s → At (next n s).after
    next_other n s us other h = from (own_of n s.subscribers)
      where
        here : (q : ℕ) (o : Option T) → At (option_map_or (λ value. answer (Value value) (settle (advance n (q + 1) s))) o (answer Empty s)).after
        here q None = h
        here q (Some x) = at_settled s (advance n (q + 1) s) (no_queue s us) refl (position-move_to_other u n (q + 1) s.subscribers other) (own-move_to u n (q + 1) s.subscribers) h

        at : (o : Option ℕ) → At (option_map_or (λ position. read n position s) o (answer Gone s)).after
        at None = h
        at (Some q) = here q (slice_get (values s) q)

        from : (own : List T) → At (next_from n own s).after
        from [] = at (position_of n s.subscribers)
        from (x ∷ own) = at_same s (keep_own n own s) refl (position-with_own u n own s.subscribers) (own-with_own_other u n own s.subscribers other) h

    answer_stands : (s : SharedFlowState T) (k : SharedCall T) → Usual s → speaks_of k ≢ Some (subscriber u) → At s → At (answer_to k s).after
    answer_stands s (call.TryEmit v) us other h = try_emit_split (λ a. At a.after) s v h (λ free. at_append s v us free h) (λ _. at_drop s v us h) (λ _. h)
    answer_stands s (call.Emit v) us other h = emit_split (λ a. At a.after) s v h (λ _ free. at_append s v us free h) (at_same s (suspend v s) refl refl refl h) (λ _. at_drop s v us h) h
    answer_stands s (call.Poll e) us other h = h
    answer_stands s (call.Cancel e) us other h =
        let none : is_offered_as e s ≡ false = ap (λ b. b && (newest s == e)) (not_offering s us) in
        let is : withdraw e s ≡ record s { queue = filter (λ q. not (q.number == e)) s.queue } = cond-false (is_offered_as e s) _ _ none in
        subst (λ t. At (settle t)) (sym is) (at_settled s (record s { queue = filter (λ q. not (q.number == e)) s.queue }) (ap (filter (λ q. not (q.number == e))) (no_queue s us)) refl refl refl h)
    answer_stands s (call.Subscribe name first) us other h = cond_both (is_exhausted s) (record { reply = Err Exhausted; after = s }) (answer (s.issued + 1) (enroll first s)) (λ a. At a.after)
        (λ _. h)
        (λ _. at_same s (enroll first s) refl (position-kept u (max p (length s.emitted - c)) s.subscribers _ h.place ∙ sym h.place) (own-kept u (max p (length s.emitted - c)) s.subscribers _ h.place) h)
    answer_stands s (call.TakeNext n) us other h = next_other n s us (apart n call.TakeNext refl other) h
    answer_stands s (call.Unsubscribe n) us other h = let away = apart n call.Unsubscribe refl other in
        at_settled s (leave n s) (no_queue s us) refl (position-without_other u n s.subscribers away) (own-without_other u n s.subscribers away) h
    answer_stands s call.ReplayCache us other h = h
    answer_stands s call.ResetReplayCache us other h = at_same s _ refl refl refl h
    answer_stands s call.SubscriptionCount us other h = h

    abbrev Kept : SharedFlowState T → Type 0
    Kept s = Usual s × At s

    stays : (s : SharedFlowState T) (k : SharedCall T) (r : SharedReply T) → speaks_of k ≢ Some (subscriber u) → Kept s → Kept (after s k r)
    stays s k r other h = (
      record { config_is = (event_grown s k r).config ∙ h.0.config_is; sound = event_keeps Sound s h.0.sound (sound_keeps s h.0.sound) k r },
      cond_both (is_refused r) s (answer_to k s).after At (λ _. h.1) (λ _. answer_stands s k h.0 other h.1),
    )

    -- a token that was given the number, and where the subscriber stands in what it has seen: it stands there while the token is silent
    pub stands_in_silence : (name : List ℕ) (h between : History T) → IsSharedHistory config (h ++ between) → IsSilent name between → IsGiven shared_flow name (subscriber u) h
        → At (state_after config h) → At (state_after config (h ++ between))
    stands_in_silence name h between is silent given got =
        (kept_while_silent shared_flow shared_lawful u Kept stays (first_state config) h between name is.legal is.owned silent given (usual_after h, got)).1

    -- ---- its `next`

    abbrev place_in : SharedFlowState T → ℕ
    place_in s = max p (length s.emitted - c)

    pub next_is : (s : SharedFlowState T) → At s
        → next u s ≡ option_map_or (λ value. answer (Value value) (settle (advance u (place_in s + 1) s))) (slice_get (values s) (place_in s)) (answer Empty s)
    next_is s h = ap (λ own. next_from u own s) h.own ∙ ap (λ o. option_map_or (λ position. read u position s) o (answer Gone s)) h.place

    pub next_empty : (s : SharedFlowState T) → At s → length s.emitted ≤ p → next u s ≡ answer Empty s
    next_empty s h all = let count = length_values s in
        next_is s h ∙ ap (λ o. option_map_or (λ value. answer (Value value) (settle (advance u (place_in s + 1) s))) o (answer Empty s)) (slice_get_past (values s) (place_in s) (omega (arith, all, count)))

    -- the value at its place, which has not left the buffer
    pub next_value : (s : SharedFlowState T) (x : T) → Usual s → At s → length s.emitted ≤ p + c → slice_get (values s) p ≡ Some x
        → next u s ≡ answer (Value x) (record s { subscribers = move_to u (p + 1) s.subscribers; queue = [] })
    next_value s x us h kept here =
        let at : place_in s ≡ p = omega (arith, kept) in
        next_is s h ∙ ap (λ q. option_map_or (λ value. answer (Value value) (settle (advance u (q + 1) s))) (slice_get (values s) q) (answer Empty s)) at
        ∙ ap (λ o. option_map_or (λ value. answer (Value value) (settle (advance u (p + 1) s))) o (answer Empty s)) here
        ∙ ap (answer (Value x)) (settle_still (advance u (p + 1) s) (no_queue s us))

    pub stands_next : (s : SharedFlowState T) → At s → p < length s.emitted → length s.emitted ≤ p + c
        → Stands u (p + 1) c (record s { subscribers = move_to u (p + 1) s.subscribers; queue = [] })
    stands_next s h more kept = record {
      place = position-move_to u (place_in s) (p + 1) s.subscribers h.place ∙ ap Some (let l : p + 1 ≡ max (p + 1) (length s.emitted - c) = omega (arith, kept) in l);
      own = own-move_to u u (p + 1) s.subscribers ∙ h.own;
      within = omega (arith, more);
    }

    -- it stands no further back than the buffer's oldest value
    pub stands_now : (s : SharedFlowState T) → At s → Stands u (max p (length s.emitted - c)) c s
    stands_now s h = record {
      place = h.place ∙ ap Some (let l : max p (length s.emitted - c) ≡ max (max p (length s.emitted - c)) (length s.emitted - c) = omega arith in l);
      own = h.own;
      within = let w = h.within in omega arith;
    }
