-- An emission of a shared flow that waits keeps waiting until it is cancelled, or no emission up to it waits any more.
use Rattle.std.proofs.Common.{inl, inr, ◌≡◌, ◌≢◌, ◌⊎◌, ℕ, suc, ◌+◌, ◌-◌, ◌<◌, ◌≤◌, Bool, true, false, ◌==◌, ◌&&◌, ◌||◌, cond, List, [], ◌∷◌, ◌++◌, length, map, filter, not, Option, Some, None, refl, sym, ap, ◌∙◌, subst, arith, eq-eqb}
use Rattle.std.specs.Prelude.{IsSome, IsSomeAnd, nat_le, max, slice_get}
use Rattle.std.specs.List.{list_any}
use Rattle.std.specs.Option.{option_map_or}
use Rattle.std.proofs.lemmas.Bool.{cond_both, or_cases, and_parts, both_ways}
use Rattle.std.proofs.lemmas.Bool.Decides.{Decides-eqb}
use Rattle.std.proofs.lemmas.List.Folds.{list_any-append}
use Rattle.flow_law.specs.declared.config.Config.{Config}
use Rattle.flow_law.specs.declared.config.Overflow.TheVariants.{DropOldest}
use Rattle.flow_law.specs.declared.call.SharedCall.{SharedCall}
use Rattle.flow_law.specs.declared.call.SharedCall.TheVariants as call
use Rattle.flow_law.specs.declared.call.SharedReply.{SharedReply}
use Rattle.flow_law.specs.flow.SharedFlow.{Numbered, Subscriber, SharedFlowState, answer, capacity, lag, is_blocked, is_offering, is_offered_as, is_queued, newest, is_exhausted, stand_at, entry, values, position_of, own_of}
use Rattle.flow_law.specs.flow.EmitRule.{numbered, append, suspend, drop_oldest}
use Rattle.flow_law.specs.flow.SharedStep.{admit, settle, is_waiting, withdraw, advance, leave, enroll, read, keep_own, next_from, next}
use Rattle.flow_law.specs.flow.SharedHistory.{is_refused, answer_to, after, MayBegin}
use Rattle.flow_law.specs.declared.touch.Touch.{Touch}
use Rattle.flow_law.specs.declared.touch.Touch.TheVariants as touch
use Rattle.flow_law.specs.history.Sleeping.{first_queued, first_waiting}
use Rattle.flow_law.specs.laws.Laws.{RisesTo, numbers}
use Rattle.flow_law.proofs.CoveringLemmas.{slice_get_last}
use Rattle.flow_law.proofs.Delivered.{usable}
use Rattle.flow_law.proofs.Growing.{event_grown}
use Rattle.flow_law.proofs.Moves.{admit_keeps, event_keeps}
use Rattle.flow_law.proofs.Queue.{fits_drops}
use Rattle.flow_law.proofs.Rows.{split, any-with_own, rises_below, rises_from, rises_filter}
use Rattle.flow_law.proofs.Sound.{Sound, sound_keeps, opened_sound}
use Rattle.flow_law.proofs.MailboxSteps.{emit_split, try_emit_split}

or_left : (a b : Bool) → a ≡ true → (a || b) ≡ true
or_left true b e = refl
or_left false b e = absurd (cc)

and_both : (a b : Bool) → a ≡ true → b ≡ true → (a && b) ≡ true
and_both true b p q = q
and_both false b p q = p

full : (c l : ℕ) → c ≡ 0 → l ≡ 1 → nat_le (max c 1) l ≡ true
full c l none one = subst (λ (z : ℕ × ℕ). nat_le (max z.0 1) z.1 ≡ true) (λ i. (sym none i, sym one i)) refl

or_right : (a b : Bool) → b ≡ true → (a || b) ≡ true
or_right true b e = refl
or_right false b e = e

module _ {T : Type 0} where
  -- whom a call may wake
  abbrev pub touches : SharedCall T → SharedReply T → Touch
  touches (call.Unsubscribe u) r = touch.Subscriber u
  touches (call.Cancel e) r = touch.Emission e
  touches _ _ = touch.NoSleeper

  -- what holds of each state that a history leads to
  pub record Lasting (s : SharedFlowState T) : Type 0 where
    pub sound : Sound s
    pub buffered : s.config.overflow ≡ DropOldest → 0 < capacity s

  abbrev has : ℕ → List (Numbered T) → Bool
  has e queue = list_any (λ q. q.number == e) queue

  abbrev queue_numbers : SharedFlowState T → List ℕ
  queue_numbers s = map (λ q. q.number) s.queue

  -- if the first emission that waits has this number or a smaller one, the emission of this number waits
  abbrev Goes : ℕ → SharedFlowState T → Type 0
  Goes e t = IsSomeAnd (first_waiting t) (λ f. f ≤ e) → is_waiting e t ≡ true

  -- ---- numbers

  -- the number of the last value, or b if there is none
  abbrev last_or : ℕ → List (Numbered T) → ℕ
  last_or b [] = b
  last_or b (x ∷ log) = last_or x.number log

  abbrev last_number : List (Numbered T) → ℕ
  last_number log = option_map_or (λ y. y.number) (slice_get log (length log - 1)) 0

  last-cons : (x y : Numbered T) (log : List (Numbered T)) → last_number (x ∷ y ∷ log) ≡ last_number (y ∷ log)
  last-cons x y log = let one : length (x ∷ y ∷ log) - 1 ≡ suc (length log) = omega arith in let two : length (y ∷ log) - 1 ≡ length log = omega arith in
      ap (λ i. option_map_or (λ (e : Numbered T). e.number) (slice_get (x ∷ y ∷ log) i) 0) one ∙ ap (λ i. option_map_or (λ (e : Numbered T). e.number) (slice_get (y ∷ log) i) 0) (sym two)

  last-is : (log : List (Numbered T)) → last_or 0 log ≡ last_number log
  last-is [] = refl
  last-is (x ∷ []) = refl
  last-is (x ∷ y ∷ log) = last-is (y ∷ log) ∙ sym (last-cons x y log)

  after_log : (b top : ℕ) (log q : List (Numbered T)) → RisesTo b (map (λ x. x.number) (log ++ q)) top → RisesTo (last_or b log) (map (λ x. x.number) q) top
  after_log b top [] q h = h
  after_log b top (x ∷ log) q h = after_log x.number top log q h.1

  -- those in the queue are above the newest
  above_newest : (s : SharedFlowState T) → Sound s → RisesTo (newest s) (queue_numbers s) s.issued
  above_newest s h = subst (λ b. RisesTo b (queue_numbers s) s.issued) (last-is s.emitted) (after_log 0 s.issued s.emitted s.queue h.rises)

  -- one that is in a queue is above what the queue is above
  within : (e b top : ℕ) (q : List (Numbered T)) → has e q ≡ true → RisesTo b (map (λ x. x.number) q) top → b < e
  within e b top [] there rises = absurd (cc)
  within e b top (x ∷ q) there rises = elim (or_cases (x.number == e) (has e q) there) as (λ _. b < e) [
    | inl here ↦ omega (arith, rises.0, (Decides-eqb x.number e).0 here)
    | inr later ↦ omega (arith, rises.0, within e x.number top q later rises.1)
  ]

  -- ---- emissions whose value was emitted

  -- the emission's value was emitted, and those in the queue have later numbers
  record Past (e : ℕ) (t : SharedFlowState T) : Type 0 where
    rises : RisesTo e (queue_numbers t) t.issued
    newest : e ≤ newest t

  past_goes : (e : ℕ) (t : SharedFlowState T) → Past e t → Goes e t
  past_goes e t p = split (is_offering t)
      (λ b. is_offering t ≡ b → IsSomeAnd (cond b (Some (newest t)) (first_queued t.queue)) (λ f. f ≤ e) → is_waiting e t ≡ true)
      (λ _ offering up. or_right (is_queued e t) (is_offered_as e t) (
      let same : newest t ≡ e = omega (arith, up, p.newest) in
      subst (λ b. (b && (newest t == e)) ≡ true) (sym offering) (eq-eqb (newest t) e same)))
      (λ _ _ up. absurd (behind t.queue p.rises up)) refl
    where
      behind : (q : List (Numbered T)) → RisesTo e (map (λ x. x.number) q) t.issued → IsSomeAnd (first_queued q) (λ f. f ≤ e) → ⊥
      behind [] rises up = up
      behind (x ∷ q) rises up = omega (arith, rises.0, up)

  newest-push : (s : SharedFlowState T) (x : Numbered T) (q : List (Numbered T)) → newest (record s { emitted = s.emitted ++ x ∷ []; queue = q }) ≡ x.number
  newest-push s x q = ap (λ (o : Option (Numbered T)). option_map_or (λ y. y.number) o 0) (slice_get_last s.emitted x)

  past_admit : (e : ℕ) (t : SharedFlowState T) (q : List (Numbered T)) → Past e (record t { queue = q }) → Past e (admit t q)
  past_admit e t q p = admit_keeps (Past e) (λ s x r _ k. record {
    rises = rises_from e x.number s.issued (map (λ y. y.number) r) (omega (arith, k.rises.0)) k.rises.1;
    newest = omega (arith, k.rises.0, newest-push s x r);
  }) t q p

  queued_admit : (e b : ℕ) (t : SharedFlowState T) (q : List (Numbered T)) → has e q ≡ true → RisesTo b (map (λ x. x.number) q) t.issued → Goes e (admit t q)
  queued_admit e b t [] there rises = absurd (cc)
  queued_admit e b t (x ∷ q) there rises = cond_both (is_blocked t) (record t { queue = x ∷ q }) (admit (record t { emitted = t.emitted ++ x ∷ [] }) q) (Goes e)
      (λ _ _. or_left (has e (x ∷ q)) (is_offered_as e (record t { queue = x ∷ q })) there)
      (λ _. elim (or_cases (x.number == e) (has e q) there) as (λ _. Goes e (admit (record t { emitted = t.emitted ++ x ∷ [] }) q)) [
        | inl here ↦ let same : x.number ≡ e = (Decides-eqb x.number e).0 here in
            past_goes e (admit (record t { emitted = t.emitted ++ x ∷ [] }) q) (past_admit e (record t { emitted = t.emitted ++ x ∷ [] }) q (record {
              rises = subst (λ n. RisesTo n (map (λ y. y.number) q) t.issued) same rises.1;
              newest = omega (arith, same, newest-push t x q);
            }))
        | inr later ↦ queued_admit e x.number (record t { emitted = t.emitted ++ x ∷ [] }) q later rises.1
      ])

  -- ---- calls

  -- after a state with the same values settles, an emission that waited in s still waits, or has ended
  settles : (e : ℕ) (s t : SharedFlowState T) → is_waiting e s ≡ true → t.emitted ≡ s.emitted
      → (is_queued e s ≡ true → has e t.queue ≡ true) → (is_offered_as e s ≡ true → newest s ≡ e)
      → RisesTo (newest s) (queue_numbers t) t.issued → Goes e (settle t)
  settles e s t waits same queued offered rises = elim (or_cases (is_queued e s) (is_offered_as e s) waits) as (λ _. Goes e (settle t)) [
    | inl in_queue ↦ queued_admit e (newest s) t t.queue (queued in_queue) rises
    | inr now ↦
        let last : newest s ≡ e = offered now in
        let same_last : newest t ≡ newest s = ap (λ (l : List (Numbered T)). option_map_or (λ y. y.number) (slice_get l (length l - 1)) 0) same in
        past_goes e (settle t) (past_admit e t t.queue (record {
          rises = subst (λ n. RisesTo n (queue_numbers t) t.issued) last rises;
          newest = omega (arith, last, same_last);
        }))
  ]

  offered_last : (e : ℕ) (s : SharedFlowState T) → is_offered_as e s ≡ true → newest s ≡ e
  offered_last e s now = (Decides-eqb (newest s) e).0 (and_parts (is_offering s) (newest s == e) now).1

  -- a subscriber that is offered a value has not received it, so the flow is blocked
  offering_blocks : (s : SharedFlowState T) → is_offering s ≡ true → is_blocked s ≡ true
  offering_blocks s offering = let parts = and_parts (capacity s == 0) (list_any (λ u. lag s u == 1) s.subscribers) offering in any s.subscribers parts.1
    where
      none : capacity s ≡ 0
      none = (Decides-eqb (capacity s) 0).0 (and_parts (capacity s == 0) (list_any (λ u. lag s u == 1) s.subscribers) offering).0

      any : (us : List (Subscriber T)) → list_any (λ u. lag s u == 1) us ≡ true → list_any (λ u. nat_le (max (capacity s) 1) (lag s u)) us ≡ true
      any [] there = absurd (cc)
      any (u ∷ us) there = elim (or_cases (lag s u == 1) (list_any (λ u. lag s u == 1) us) there) as (λ _. list_any (λ u. nat_le (max (capacity s) 1) (lag s u)) (u ∷ us) ≡ true) [
        | inl here ↦ or_left (nat_le (max (capacity s) 1) (lag s u)) (list_any (λ u. nat_le (max (capacity s) 1) (lag s u)) us) (full (capacity s) (lag s u) none ((Decides-eqb (lag s u) 1).0 here))
        | inr later ↦ or_right (nat_le (max (capacity s) 1) (lag s u)) (list_any (λ u. nat_le (max (capacity s) 1) (lag s u)) us) (any us later)
      ]

  -- no emission waits if the flow is not blocked
  none_waits : (e : ℕ) (s : SharedFlowState T) → Sound s → is_blocked s ≡ false → is_waiting e s ≡ true → ⊥
  none_waits e s h free waits = elim (or_cases (is_queued e s) (is_offered_as e s) waits) as (λ _. ⊥) [
    | inl queued ↦ let no_queue : s.queue ≡ [] = h.calm.idle free in let none : has e s.queue ≡ false = ap (has e) no_queue in absurd (both_ways (has e s.queue) none queued)
    | inr offered ↦ absurd (both_ways (is_blocked s) free (offering_blocks s (and_parts (is_offering s) (newest s == e) offered).0))
  ]

  none_waits_dropping : (e : ℕ) (s : SharedFlowState T) → Lasting s → s.config.overflow ≡ DropOldest → is_waiting e s ≡ true → ⊥
  none_waits_dropping e s h drops waits = elim (or_cases (is_queued e s) (is_offered_as e s) waits) as (λ _. ⊥) [
    | inl queued ↦ let none : has e s.queue ≡ false = ap (has e) (fits_drops s.config.overflow s.queue drops h.sound.calm.fits) in absurd (both_ways (has e s.queue) none queued)
    | inr offered ↦
        let offering = and_parts (capacity s == 0) (list_any (λ u. lag s u == 1) s.subscribers) (and_parts (is_offering s) (newest s == e) offered).0 in
        let zero_room : capacity s ≡ 0 = (Decides-eqb (capacity s) 0).0 offering.0 in
        omega (arith, zero_room, h.buffered drops)
  ]

  module _ (e : ℕ) (s : SharedFlowState T) (h : Lasting s) (waits : is_waiting e s ≡ true) where
    still : Goes e s
    still _ = waits

    suspended : (v : T) → Goes e (suspend v s)
    suspended v _ = elim (or_cases (is_queued e s) (is_offered_as e s) waits) as (λ _. is_waiting e (suspend v s) ≡ true) [
      | inl queued ↦ or_left (has e (s.queue ++ numbered v s ∷ [])) (is_offered_as e s) (list_any-append (λ q. q.number == e) s.queue (numbered v s ∷ []) ∙ or_left (has e s.queue) (has e (numbered v s ∷ [])) queued)
      | inr offered ↦ or_right (has e (s.queue ++ numbered v s ∷ [])) (is_offered_as e s) offered
    ]

    withdrawn : (n : ℕ) → ◌≢◌ {A = SharedCall T} (call.Cancel n) (call.Cancel e) → Goes e (settle (withdraw n s))
    withdrawn n other = cond_both (is_offered_as n s) (record s { subscribers = map (stand_at (length s.emitted)) s.subscribers }) (record s { queue = filter (λ q. not (q.number == n)) s.queue })
        (λ (t : SharedFlowState T). Goes e (settle t))
        (λ _. settles e s (record s { subscribers = map (stand_at (length s.emitted)) s.subscribers }) waits refl (λ q. q) (offered_last e s) (above_newest s h.sound))
        (λ _. settles e s (record s { queue = filter (λ q. not (q.number == n)) s.queue }) waits refl (kept s.queue) (offered_last e s)
        (rises_filter (λ q. not (q.number == n)) (newest s) s.issued [] s.queue (above_newest s h.sound)))
      where
        kept : (q : List (Numbered T)) → has e q ≡ true → has e (filter (λ x. not (x.number == n)) q) ≡ true
        kept [] there = absurd (cc)
        kept (x ∷ q) there = split (x.number == n) (λ t. (x.number == n) ≡ t → has e (cond (not t) (x ∷ filter (λ y. not (y.number == n)) q) (filter (λ y. not (y.number == n)) q)) ≡ true)
            (λ yes _. elim (or_cases (x.number == e) (has e q) there) as (λ _. has e (filter (λ y. not (y.number == n)) q) ≡ true) [
              | inl here ↦ absurd (other (ap call.Cancel (sym ((Decides-eqb x.number n).0 yes) ∙ (Decides-eqb x.number e).0 here)))
              | inr later ↦ kept q later
            ])
            (λ no _. elim (or_cases (x.number == e) (has e q) there) as (λ _. has e (x ∷ filter (λ y. not (y.number == n)) q) ≡ true) [
              | inl here ↦ or_left (x.number == e) (has e (filter (λ y. not (y.number == n)) q)) here
              | inr later ↦ or_right (x.number == e) (has e (filter (λ y. not (y.number == n)) q)) (kept q later)
            ]) refl

    enrolled : (first : List T) → Goes e (enroll first s)
    enrolled first _ = elim (or_cases (is_queued e s) (is_offered_as e s) waits) as (λ _. is_waiting e (enroll first s) ≡ true) [
      | inl queued ↦ or_left (is_queued e s) (is_offered_as e (enroll first s)) queued
      | inr offered ↦ or_right (is_queued e s) (is_offered_as e (enroll first s)) (
          let new : Subscriber T = record { number = s.issued + 1; own = first; position = entry s } in
          let parts = and_parts (is_offering s) (newest s == e) offered in
          let offering = and_parts (capacity s == 0) (list_any (λ u. lag s u == 1) s.subscribers) parts.0 in
          let some : list_any (λ u. lag s u == 1) (s.subscribers ++ new ∷ []) ≡ true =
          list_any-append (λ u. lag s u == 1) s.subscribers (new ∷ []) ∙ or_left (list_any (λ u. lag s u == 1) s.subscribers) (list_any (λ u. lag s u == 1) (new ∷ [])) offering.1 in
          and_both (is_offering (enroll first s)) (newest s == e) (and_both (capacity s == 0) (list_any (λ u. lag s u == 1) (s.subscribers ++ new ∷ [])) offering.0 some) parts.1)
    ]

    took_own : (n : ℕ) (own : List T) → Goes e (keep_own n own s)
    took_own n own _ =
        let same : list_any (λ u. lag s u == 1) (keep_own n own s).subscribers ≡ list_any (λ u. lag s u == 1) s.subscribers = any-with_own (λ u. lag s u == 1) n own (λ u. refl) s.subscribers in
        ap (λ b. is_queued e s || (((capacity s == 0) && b) && (newest s == e))) same ∙ waits

    next_goes : (n : ℕ) → Goes e (next n s).after
    next_goes n = from (own_of n s.subscribers)
      where
        here : (p : ℕ) (o : Option T) → Goes e (option_map_or (λ value. answer (Rattle.flow_law.specs.declared.outcome.Next.TheVariants.Value value) (settle (advance n (p + 1) s))) o (answer Rattle.flow_law.specs.declared.outcome.Next.TheVariants.Empty s)).after
        here p None = still
        here p (Some v) = settles e s (advance n (p + 1) s) waits refl (λ q. q) (offered_last e s) (above_newest s h.sound)

        at : (o : Option ℕ) → Goes e (option_map_or (λ position. read n position s) o (answer Rattle.flow_law.specs.declared.outcome.Next.TheVariants.Gone s)).after
        at None = still
        at (Some p) = here p (slice_get (values s) p)

        from : (own : List T) → Goes e (next_from n own s).after
        from [] = at (position_of n s.subscribers)
        from (v ∷ own) = took_own n own

    answer_goes : (c : SharedCall T) → c ≢ call.Cancel e → Goes e (answer_to c s).after
    answer_goes (call.TryEmit v) other = try_emit_split (λ a. Goes e a.after) s v still (λ free _. absurd (none_waits e s h.sound free waits)) (λ drops _. absurd (none_waits_dropping e s h drops waits)) (λ _. still)
    answer_goes (call.Emit v) other = emit_split (λ a. Goes e a.after) s v still (λ _ free _. absurd (none_waits e s h.sound free waits)) (suspended v) (λ drops _. absurd (none_waits_dropping e s h drops waits)) still
    answer_goes (call.Poll n) other = still
    answer_goes (call.Cancel n) other = withdrawn n other
    answer_goes (call.Subscribe name first) other = cond_both (is_exhausted s) (record { reply = Rattle.std.specs.Prelude.Err Rattle.flow_law.specs.declared.fault.FlowFault.TheVariants.Exhausted; after = s }) (answer (s.issued + 1) (enroll first s)) (λ a. Goes e a.after)
        (λ _. still) (λ _. enrolled first)
    answer_goes (call.TakeNext n) other = next_goes n
    answer_goes (call.Unsubscribe n) other = settles e s (leave n s) waits refl (λ q. q) (offered_last e s) (above_newest s h.sound)
    answer_goes call.ReplayCache other = still
    answer_goes call.ResetReplayCache other = λ _. waits
    answer_goes call.SubscriptionCount other = still

    pub event_goes : (c : SharedCall T) (r : SharedReply T) → touches c r ≢ touch.Emission e → Goes e (after s c r)
    event_goes c r other = cond_both (is_refused r) s (answer_to c s).after (Goes e) (λ _. still) (λ _. answer_goes c (λ is. other (ap (λ d. touches d r) is)))

    -- it is not before the first that waits
    pub first_first : IsSomeAnd (first_waiting s) (λ f. f ≤ e)
    first_first = split (is_offering s)
        (λ b. is_offering s ≡ b → IsSomeAnd (cond b (Some (newest s)) (first_queued s.queue)) (λ f. f ≤ e))
        (λ _ offering. elim (or_cases (is_queued e s) (is_offered_as e s) waits) as (λ _. newest s ≤ e) [
          | inl queued ↦ omega (arith, within e (newest s) s.issued s.queue queued (above_newest s h.sound))
          | inr offered ↦ omega (arith, offered_last e s offered)
        ])
        (λ _ idle. elim (or_cases (is_queued e s) (is_offered_as e s) waits) as (λ _. IsSomeAnd (first_queued s.queue) (λ f. f ≤ e)) [
          | inl queued ↦ at s.queue queued (above_newest s h.sound)
          | inr offered ↦ absurd (both_ways (is_offering s) idle (and_parts (is_offering s) (newest s == e) offered).0)
        ]) refl
      where
        at : (q : List (Numbered T)) → has e q ≡ true → RisesTo (newest s) (map (λ x. x.number) q) s.issued → IsSomeAnd (first_queued q) (λ f. f ≤ e)
        at [] there rises = absurd (cc)
        at (x ∷ q) there rises = elim (or_cases (x.number == e) (has e q) there) as (λ _. x.number ≤ e) [
          | inl here ↦ omega (arith, (Decides-eqb x.number e).0 here)
          | inr later ↦ omega (arith, within e x.number s.issued q later rises.1)
        ]

  -- ---- each state that a history leads to

  pub lasting_begins : (s : SharedFlowState T) → MayBegin s → Lasting s
  lasting_begins s may = record {
    sound = subst Sound (sym may.0) (opened_sound s.config);
    buffered = usable s.config may.1;
  }

  pub lasting_keeps : (s : SharedFlowState T) (c : SharedCall T) (r : SharedReply T) → Lasting s → Lasting (after s c r)
  lasting_keeps s c r h = let same = (event_grown s c r).config in record {
    sound = event_keeps Sound s h.sound (sound_keeps s h.sound) c r;
    buffered = subst (λ (g : Config). g.overflow ≡ DropOldest → 0 < g.replay + g.extra) (sym same) h.buffered;
  }
