-- How long an emission waits. Key facts: `moves_on` (each received value advances a subscriber), `waited_keeps` (the number of
-- emitted values plus that of the values ahead of a queued emission never grows), `admits` (the law).
use Rattle.std.proofs.Common.{inl, inr, ◌≡◌, ℕ, suc, ◌+◌, ◌-◌, ◌≤◌, ◌<◌, Bool, true, false, not, ◌==◌, cond, List, [], ◌∷◌, ◌++◌, length, map, Some, refl, sym, ap, ◌∙◌, subst, arith, append_assoc, append-nil, length-append, ne_eqb}
use Rattle.std.specs.Prelude.{filter, nat_le, IsSome}
use Rattle.std.specs.List.{list_any, slice_get}
use Rattle.std.specs.Option.{option_map_or}
use Rattle.std.proofs.lemmas.Bool.{cond_both, or_cases, or_from, or_left, or_right, and_parts, both_ways, leb-true}
use Rattle.std.proofs.lemmas.Bool.Decides.{Decides-eqb}
use Rattle.std.proofs.lemmas.List.{length_push}
use Rattle.std.proofs.lemmas.List.Folds.{list_any-append}
use Rattle.flow_law.specs.declared.config.Config.{Config}
use Rattle.flow_law.specs.flow.SharedFlow.{Numbered, SharedFlowState, first_state, capacity, window, lag, is_blocked, is_offering, is_offered_as, is_queued, newest, position_of, stand_at}
use Rattle.flow_law.specs.flow.EmitRule.{numbered, append}
use Rattle.flow_law.specs.flow.SharedStep.{settle, withdraw}
use Rattle.flow_law.specs.flow.SharedHistory.{History, IsLegalShared, IsLegalFrom, shared_flow, after, shared_after_all, state_after}
use Rattle.flow_law.specs.laws.Laws.{RisesTo, numbers}
use Rattle.flow_law.specs.laws.Waiting.{from_flow_by, from_flow, ahead, HasSlowSubscriber, Waits, EachWaits}
use Rattle.flow_law.proofs.Moves.{Keeps, event_keeps, history_keeps, admit_keeps}
use Rattle.flow_law.proofs.Owners.{legal_right}
use Rattle.flow_law.proofs.Rows.{split, position_holds, rises_below, rises_filter}
use Rattle.flow_law.proofs.Queue.{fits_drops}
use Rattle.flow_law.proofs.Sound.{Sound, sound_keeps, always_sound}
use Rattle.flow_law.proofs.LagBounds.{Keeping, keeping_keeps, always_keeping}
use Rattle.flow_law.proofs.Boxes.{admit_subscribers}
use Rattle.flow_law.proofs.Growing.{event_grown, history_grown, longer, same_window}
use Rattle.flow_law.proofs.Passing.{Moved, enters, stays, skips, reads, event_passes}
use Rattle.flow_law.proofs.RowOrder.{InOrder, always_in_order, in_order_keeps, found_by_number}

some_same : {A : Type 0} (a b : A) → Some a ≡ Some b → a ≡ b
some_same a b e = cc

module _ {T : Type 0} where
  -- ---- each value that u received moved it on

  behind : (u p : ℕ) (s : SharedFlowState T) → Keeping s → position_of u s.subscribers ≡ Some p → length s.emitted ≤ p + window s
  behind u p s k at =
      let found = position_holds (λ w. length s.emitted - w.position ≤ window s) u p s.subscribers k at in
      let at_p : length s.emitted - p ≤ window s = subst (λ q. length s.emitted - q ≤ window s) found.2 found.3 in
      omega (arith, at_p)

  pub moves_on : (u base n : ℕ) (s : SharedFlowState T) (h : History T) → Sound s → Keeping s → IsLegalFrom s h → base ≤ length s.emitted → (s.issued < u → n ≡ 0)
      → ((p : ℕ) → position_of u s.subscribers ≡ Some p → base + n ≤ p + window s)
      → (p : ℕ) → position_of u (shared_after_all s h).subscribers ≡ Some p → base + (n + length (from_flow u s h)) ≤ p + window s
  moves_on u base n s [] sound keeping legal low fresh bound p at = let here = bound p at in omega (arith, here)
  moves_on u base n s (e ∷ es) sound keeping legal low fresh bound p at =
      let t : SharedFlowState T = after s e.what.call e.what.reply in
      let got : List T = from_flow_by u s e.what.call e.what.reply in
      let step = event_passes u s sound.placed e.what.call e.what.reply legal.0 in
      let grown = event_grown s e.what.call e.what.reply in
      let more : length s.emitted ≤ length t.emitted = longer s t grown in
      let wide : window t ≡ window s = same_window s t grown in
      let keeping_after : Keeping t = event_keeps Keeping s keeping (keeping_keeps s keeping) e.what.call e.what.reply in
      let nothing_yet : t.issued < u → n + length got ≡ 0 = λ l. let l2 : s.issued < u = omega (arith, l, grown.issued) in let none : length got ≡ 0 = ap length (step.early l2) in omega (arith, none, fresh l2) in
      let rest = moves_on u base (n + length got) t es (event_keeps Sound s sound (sound_keeps s sound) e.what.call e.what.reply) keeping_after legal.1 (omega (arith, low, more)) nothing_yet
      (λ q here. moved q (behind u q t keeping_after here) wide more (step.place q here)) p at in
      omega (arith, rest, wide, length-append got (from_flow u t es))
    where
      moved : (q : ℕ) → length (after s e.what.call e.what.reply).emitted ≤ q + window (after s e.what.call e.what.reply) → window (after s e.what.call e.what.reply) ≡ window s
          → length s.emitted ≤ length (after s e.what.call e.what.reply).emitted
          → Moved u s (after s e.what.call e.what.reply) (from_flow_by u s e.what.call e.what.reply) (Rattle.flow_law.specs.flow.Mailbox.began_by u s e.what.call e.what.reply) q
          → base + (n + length (from_flow_by u s e.what.call e.what.reply)) ≤ q + window (after s e.what.call e.what.reply)
      moved q near wide more (enters new is none begins) = let zero_got : length (from_flow_by u s e.what.call e.what.reply) ≡ 0 = ap length none in omega (arith, near, more, low, zero_got, fresh new)
      moved q near wide more (stays here none begins) = let zero_got : length (from_flow_by u s e.what.call e.what.reply) ≡ 0 = ap length none in omega (arith, bound q here, wide, zero_got)
      moved q near wide more (skips p here up most may none begins) = let zero_got : length (from_flow_by u s e.what.call e.what.reply) ≡ 0 = ap length none in omega (arith, bound p here, wide, zero_got, up)
      moved q near wide more (reads p v here there is one begins) = let one_got : length (from_flow_by u s e.what.call e.what.reply) ≡ 1 = ap length one in omega (arith, bound p here, wide, one_got, is)

  -- ---- the newest value

  abbrev last_number : List (Numbered T) → ℕ
  last_number log = option_map_or (λ e. e.number) (slice_get log (length log - 1)) 0

  last-cons : (x y : Numbered T) (log : List (Numbered T)) → last_number (x ∷ y ∷ log) ≡ last_number (y ∷ log)
  last-cons x y log = let one : length (x ∷ y ∷ log) - 1 ≡ suc (length log) = omega arith in let two : length (y ∷ log) - 1 ≡ length log = omega arith in
      ap (λ i. option_map_or (λ (e : Numbered T). e.number) (slice_get (x ∷ y ∷ log) i) 0) one ∙ ap (λ i. option_map_or (λ (e : Numbered T). e.number) (slice_get (y ∷ log) i) 0) (sym two)

  last-push : (log : List (Numbered T)) (y : Numbered T) → last_number (log ++ y ∷ []) ≡ y.number
  last-push [] y = refl
  last-push (x ∷ []) y = refl
  last-push (x ∷ z ∷ log) y = last-cons x z (log ++ y ∷ []) ∙ last-push (z ∷ log) y

  last_above : (b top : ℕ) (x : Numbered T) (log q : List (Numbered T)) → RisesTo b (map (λ x. x.number) ((x ∷ log) ++ q)) top → b < last_number (x ∷ log)
  last_above b top x [] q h = h.0
  last_above b top x (y ∷ log) q h = let rest = last_above x.number top y log q h.1 in omega (arith, h.0, rest, last-cons x y log)

  last_rises : (b top : ℕ) (log : List (Numbered T)) (x : Numbered T) (more q : List (Numbered T)) → RisesTo b (map (λ x. x.number) ((log ++ x ∷ more) ++ q)) top → last_number log < last_number (log ++ x ∷ more)
  last_rises b top [] x more q h = let rest = last_above b top x more q h in omega (arith, rest)
  last_rises b top (y ∷ []) x more q h = let rest = last_above y.number top x more q h.1 in omega (arith, rest, last-cons y x more)
  last_rises b top (y ∷ z ∷ log) x more q h = let rest = last_rises y.number top (z ∷ log) x more q h.1 in omega (arith, rest, last-cons y z log, last-cons y z (log ++ x ∷ more))

  -- ---- the values before an emission in the queue

  above : (e b top : ℕ) (q : List (Numbered T)) → e ≤ b → RisesTo b (map (λ x. x.number) q) top → list_any (λ x. x.number == e) q ≡ false
  above e b top [] l h = refl
  above e b top (x ∷ q) l h = or_from (x.number == e) (list_any (λ x. x.number == e) q) (ne_eqb x.number e (λ z. omega (arith, h.0, z, l))) (above e x.number top q (omega (arith, h.0, l)) h.1)

  -- the queue's numbers rise, too
  queue_rises : (b top : ℕ) (log q : List (Numbered T)) → RisesTo b (map (λ x. x.number) (log ++ q)) top → (c : ℕ) × RisesTo c (map (λ x. x.number) q) top
  queue_rises b top [] q h = (b, h)
  queue_rises b top (x ∷ log) q h = queue_rises x.number top log q h.1

  queued_below : (e b top : ℕ) (q : List (Numbered T)) → RisesTo b (map (λ x. x.number) q) top → list_any (λ x. x.number == e) q ≡ true → e ≤ top
  queued_below e b top [] h t = absurd (let wrong : false ≡ true = t in cc)
  queued_below e b top (x ∷ q) h t = elim (or_cases (x.number == e) (list_any (λ x. x.number == e) q) t) as (λ _. e ≤ top) [
    | inl is ↦ omega (arith, (Decides-eqb x.number e).0 is, rises_below x.number top (map (λ (x : Numbered T). x.number) q) h.1)
    | inr there ↦ queued_below e x.number top q h.1 there
  ]

  filter_queued : (test : Numbered T → Bool) (e : ℕ) (q : List (Numbered T)) → list_any (λ x. x.number == e) (filter test q) ≡ true → list_any (λ x. x.number == e) q ≡ true
  filter_queued test e [] h = h
  filter_queued test e (x ∷ q) h = cond_both (test x) (x ∷ filter test q) (filter test q) (λ l. list_any (λ x. x.number == e) l ≡ true → list_any (λ x. x.number == e) (x ∷ q) ≡ true)
      (λ _ k. elim (or_cases (x.number == e) (list_any (λ x. x.number == e) (filter test q)) k) as (λ _. list_any (λ x. x.number == e) (x ∷ q) ≡ true) [
        | inl is ↦ or_left (x.number == e) (list_any (λ x. x.number == e) q) is
        | inr there ↦ or_right (x.number == e) (list_any (λ x. x.number == e) q) (filter_queued test e q there)
      ])
      (λ _ k. or_right (x.number == e) (list_any (λ x. x.number == e) q) (filter_queued test e q k)) h

  rest_queued : (e : ℕ) (x : Numbered T) (q : List (Numbered T)) → list_any (λ x. x.number == e) (x ∷ q) ≡ true → (x.number == e) ≡ false → list_any (λ x. x.number == e) q ≡ true
  rest_queued e x q h f = elim (or_cases (x.number == e) (list_any (λ x. x.number == e) q) h) as (λ _. list_any (λ x. x.number == e) q ≡ true) [
    | inl is ↦ absurd (both_ways (x.number == e) f is)
    | inr there ↦ there
  ]

  filter_ahead : (test : Numbered T → Bool) (e b top : ℕ) (q : List (Numbered T)) → RisesTo b (map (λ x. x.number) q) top → list_any (λ x. x.number == e) (filter test q) ≡ true → ahead e (filter test q) ≤ ahead e q
  filter_ahead test e b top [] r h = omega arith
  filter_ahead test e b top (x ∷ q) r h = split (test x) (λ t. list_any (λ x. x.number == e) (cond t (x ∷ filter test q) (filter test q)) ≡ true → ahead e (cond t (x ∷ filter test q) (filter test q)) ≤ ahead e (x ∷ q))
      (λ _ k. split (x.number == e) (λ t. (x.number == e) ≡ t → cond t 0 (1 + ahead e (filter test q)) ≤ cond t 0 (1 + ahead e q)) (λ _ _. omega arith)
      (λ _ f. let less = filter_ahead test e x.number top q r.1 (rest_queued e x (filter test q) k f) in omega (arith, less)) refl)
      (λ _ k. split (x.number == e) (λ t. (x.number == e) ≡ t → ahead e (filter test q) ≤ cond t 0 (1 + ahead e q))
      (λ _ is. absurd (both_ways (list_any (λ x. x.number == e) q) (above e x.number top q (omega (arith, (Decides-eqb x.number e).0 is)) r.1) (filter_queued test e q k)))
      (λ _ f. let less = filter_ahead test e x.number top q r.1 k in omega (arith, less)) refl) h

  push_ahead : (e : ℕ) (q : List (Numbered T)) (y : Numbered T) → list_any (λ x. x.number == e) q ≡ true → ahead e (q ++ y ∷ []) ≡ ahead e q
  push_ahead e [] y h = absurd (let wrong : false ≡ true = h in cc)
  push_ahead e (x ∷ q) y h = split (x.number == e) (λ t. (x.number == e) ≡ t → cond t 0 (1 + ahead e (q ++ y ∷ [])) ≡ cond t 0 (1 + ahead e q)) (λ _ _. refl)
      (λ _ f. ap (λ n. 1 + n) (push_ahead e q y (rest_queued e x q h f))) refl

  -- if e waits in the queue, the emitted values and those ahead of e are at most `top` together
  abbrev pub Early : ℕ → ℕ → SharedFlowState T → Type 0
  Early e top s = is_queued e s ≡ true → length s.emitted + ahead e s.queue ≤ top

  -- e was emitted last, and then the log is at most one longer
  abbrev pub Arrived : ℕ → ℕ → SharedFlowState T → Type 0
  Arrived e top s = newest s ≡ e → length s.emitted ≤ top + 1

  abbrev Ranked : ℕ → ℕ → SharedFlowState T → Type 0
  Ranked e top s = RisesTo 0 (numbers s) s.issued × Early e top s × Arrived e top s

  settle_ranked : (e top : ℕ) (s : SharedFlowState T) → Ranked e top s → Ranked e top (settle s)
  settle_ranked e top s h = admit_keeps (Ranked e top) step s s.queue h
    where
      step : (t : SharedFlowState T) (y : Numbered T) (q : List (Numbered T)) → is_blocked t ≡ false → Ranked e top (record t { queue = y ∷ q }) → Ranked e top (record t { emitted = t.emitted ++ y ∷ []; queue = q })
      step t y q free k = (
        subst (λ l. RisesTo 0 (map (λ (e : Numbered T). e.number) l) t.issued) (sym (append_assoc t.emitted (y ∷ []) q)) k.0,
        λ there. split (y.number == e) (λ b. (y.number == e) ≡ b → length t.emitted + cond b 0 (1 + ahead e q) ≤ top → length (t.emitted ++ y ∷ []) + ahead e q ≤ top)
            (λ _ is _. let rises = queue_rises 0 t.issued t.emitted (y ∷ q) k.0 in
            absurd (both_ways (list_any (λ x. x.number == e) q) (above e y.number t.issued q (omega (arith, (Decides-eqb y.number e).0 is)) rises.1.1) there))
            (λ _ _ b. omega (arith, b, length_push t.emitted y)) refl (k.1 (or_right (y.number == e) (list_any (λ x. x.number == e) q) there)),
        λ last. let is : (y.number == e) ≡ true = (Decides-eqb y.number e).1 (sym (last-push t.emitted y) ∙ last) in
            let bound = k.1 (or_left (y.number == e) (list_any (λ x. x.number == e) q) is) in
            omega (arith, bound, length_push t.emitted y),
      )

  pub record Waited (e top : ℕ) (s : SharedFlowState T) : Type 0 where
    pub sound : Sound s
    pub issued : e ≤ s.issued
    pub early : Early e top s
    pub arrived : Arrived e top s

  none_queued : (e : ℕ) (s : SharedFlowState T) → s.queue ≡ [] → is_queued e s ≡ true → ⊥
  none_queued e s none h = both_ways (is_queued e s) (ap (list_any (λ x. x.number == e)) none) h

  settle_waited : (e top : ℕ) (s : SharedFlowState T) → Sound (settle s) → e ≤ s.issued → Ranked e top s → Waited e top (settle s)
  settle_waited e top s sound issued ranked = let r = settle_ranked e top s ranked in record { sound = sound; issued = omega (arith, issued, (admit_subscribers s s.queue).2); early = r.1; arrived = r.2 }

  waited_keeps : (e top : ℕ) (s : SharedFlowState T) → Waited e top s → Keeps (Waited e top) s
  waited_keeps e top s h = let sound = sound_keeps s h.sound in record {
    appends = λ v free. record { sound = sound.appends v free; issued = omega (arith, h.issued); early = λ there. absurd (none_queued e s (h.sound.calm.idle free) there); arrived = λ last. absurd (newer v last) };
    suspends = λ v b o. record {
      sound = sound.suspends v b o;
      issued = omega (arith, h.issued);
      early = λ there. let before = was_queued v there in let bound = h.early before in omega (arith, bound, push_ahead e s.queue (numbered v s) before);
      arrived = h.arrived;
    };
    drops = λ v b o. record { sound = sound.drops v b o; issued = omega (arith, h.issued); early = λ there. absurd (none_queued e s (fits_drops s.config.overflow s.queue o h.sound.calm.fits) there); arrived = λ last. absurd (newer v last) };
    withdraws = λ n. settle_waited e top (withdraw n s) (sound.withdraws n) (withdraw_issued n) (withdraw_ranked n);
    advances = λ u p v at here. settle_waited e top _ (sound.advances u p v at here) h.issued (h.sound.rises, h.early, h.arrived);
    leaves = λ u. settle_waited e top _ (sound.leaves u) h.issued (h.sound.rises, h.early, h.arrived);
    enrolls = λ first. record { sound = sound.enrolls first; issued = omega (arith, h.issued); early = h.early; arrived = h.arrived };
    takes_own = λ u v own is. record { sound = sound.takes_own u v own is; issued = h.issued; early = h.early; arrived = h.arrived };
    forgets = record { sound = sound.forgets; issued = h.issued; early = h.early; arrived = h.arrived };
  }
    where
      newer : (v : T) → newest (append v s) ≡ e → ⊥
      newer v last = let is : s.issued + 1 ≡ e = sym (last-push s.emitted (numbered v s)) ∙ last in omega (arith, is, h.issued)

      was_queued : (v : T) → list_any (λ x. x.number == e) (s.queue ++ numbered v s ∷ []) ≡ true → is_queued e s ≡ true
      was_queued v there = elim (or_cases (is_queued e s) (list_any (λ x. x.number == e) (numbered v s ∷ [])) (sym (list_any-append (λ x. x.number == e) s.queue (numbered v s ∷ [])) ∙ there)) as (λ _. is_queued e s ≡ true) [
        | inl t ↦ t
        | inr t ↦ absurd (both_ways _ (or_from (s.issued + 1 == e) false (ne_eqb (s.issued + 1) e (λ z. omega (arith, z, h.issued))) refl) t)
      ]

      withdraw_issued : (n : ℕ) → e ≤ (withdraw n s).issued
      withdraw_issued n = cond_both (is_offered_as n s) (record s { subscribers = map (stand_at (length s.emitted)) s.subscribers }) (record s { queue = filter (λ q. not (q.number == n)) s.queue }) (λ t. e ≤ t.issued) (λ _. h.issued) (λ _. h.issued)

      withdraw_ranked : (n : ℕ) → Ranked e top (withdraw n s)
      withdraw_ranked n = cond_both (is_offered_as n s) (record s { subscribers = map (stand_at (length s.emitted)) s.subscribers }) (record s { queue = filter (λ q. not (q.number == n)) s.queue }) (Ranked e top)
          (λ _. (h.sound.rises, h.early, h.arrived))
          (λ _. (
            rises_filter (λ q. not (q.number == n)) 0 s.issued s.emitted s.queue h.sound.rises,
            λ there. let rises = queue_rises 0 s.issued s.emitted s.queue h.sound.rises in
                let less = filter_ahead (λ q. not (q.number == n)) e rises.0 s.issued s.queue rises.1 there in
                let bound = h.early (filter_queued (λ q. not (q.number == n)) e s.queue there) in omega (arith, less, bound),
            h.arrived,
          ))

  -- ---- the law

  admitted_from : (s : SharedFlowState T) (since : History T) → Sound s → Keeping s → InOrder s → IsLegalFrom s since → (e : ℕ) → Waits e s since
  admitted_from s since sound keeping ordered legal e = record { in_queue = queued; let_in = let_in; offered = offered }
    where
      count : (u p : ℕ) → position_of u (shared_after_all s since).subscribers ≡ Some p → length s.emitted + length (from_flow u s since) ≤ p + window s
      count u p at = let all = moves_on u (length s.emitted) 0 s since sound keeping legal (omega arith) (λ _. refl) (λ q here. let near = behind u q s keeping here in omega (arith, near)) p at in omega (arith, all)

      waited : is_queued e s ≡ true → Waited e (length s.emitted + ahead e s.queue) (shared_after_all s since)
      waited before =
          let top : ℕ = length s.emitted + ahead e s.queue in
          let rises = queue_rises 0 s.issued s.emitted s.queue sound.rises in
          history_keeps (Waited e top) (waited_keeps e top) s since (record { sound = sound; issued = queued_below e rises.0 s.issued s.queue rises.1 before; early = λ _. omega arith; arrived = λ _. omega arith })

      queued : is_queued e s ≡ true → is_queued e (shared_after_all s since) ≡ true → HasSlowSubscriber (ahead e s.queue) s since
      queued before now =
          let t : SharedFlowState T = shared_after_all s since in
          let after_it = waited before in
          let blocked : is_blocked t ≡ true = split (is_blocked t) (λ b. is_blocked t ≡ b → is_blocked t ≡ true) (λ _ k. k) (λ _ free. absurd (none_queued e t (after_it.sound.calm.idle free) now)) refl in
          let slow = found_by_number (λ u. nat_le (window t) (lag t u)) 0 t.issued t.subscribers (history_keeps InOrder in_order_keeps s since ordered) blocked in
          let far : window t ≤ lag t slow.0 = leb-true (window t) (lag t slow.0) slow.3 in
          let wide : window t ≡ window s = same_window s t (history_grown s since) in
          (slow.0.number, subst IsSome (sym slow.2) refl, omega (arith, far, wide, after_it.early now, count slow.0.number slow.0.position slow.2))

      -- while e is offered and at most n values were emitted since, some subscriber has received at most n
      offering_to : (n : ℕ) → is_offered_as e (shared_after_all s since) ≡ true → length (shared_after_all s since).emitted ≤ length s.emitted + n → HasSlowSubscriber n s since
      offering_to n now short =
          let t : SharedFlowState T = shared_after_all s since in
          let offering = and_parts (capacity t == 0) (list_any (λ u. lag t u == 1) t.subscribers) (and_parts (is_offering t) (newest t == e) now).0 in
          let no_buffer : capacity t ≡ 0 = (Decides-eqb (capacity t) 0).0 offering.0 in
          let slow = found_by_number (λ u. lag t u == 1) 0 t.issued t.subscribers (history_keeps InOrder in_order_keeps s since ordered) offering.1 in
          let near : length t.emitted - slow.0.position ≡ 1 = (Decides-eqb (lag t slow.0) 1).0 slow.3 in
          let wide : window t ≡ window s = same_window s t (history_grown s since) in
          (slow.0.number, subst IsSome (sym slow.2) refl, omega (arith, near, wide, no_buffer, short, count slow.0.number slow.0.position slow.2))

      let_in : is_queued e s ≡ true → is_offered_as e (shared_after_all s since) ≡ true → HasSlowSubscriber (ahead e s.queue + 1) s since
      let_in before now =
          let t : SharedFlowState T = shared_after_all s since in
          let last : newest t ≡ e = (Decides-eqb (newest t) e).0 (and_parts (is_offering t) (newest t == e) now).1 in
          let bound = (waited before).arrived last in
          offering_to (ahead e s.queue + 1) now (omega (arith, bound))

      none_came : (more : List (Numbered T)) → (shared_after_all s since).emitted ≡ s.emitted ++ more → newest (shared_after_all s since) ≡ newest s → length (shared_after_all s since).emitted ≡ length s.emitted
      none_came [] log same = ap length (log ∙ append-nil s.emitted)
      none_came (x ∷ more) log same =
          let t : SharedFlowState T = shared_after_all s since in
          let rises : RisesTo 0 (map (λ e. e.number) ((s.emitted ++ x ∷ more) ++ t.queue)) t.issued = subst (λ l. RisesTo 0 (map (λ (e : Numbered T). e.number) (l ++ t.queue)) t.issued) log (history_keeps Sound sound_keeps s since sound).rises in
          let later = last_rises 0 t.issued s.emitted x more t.queue rises in
          let same_last : newest t ≡ last_number (s.emitted ++ x ∷ more) = ap last_number log in
          absurd (omega (arith, later, same_last, same))

      offered : is_offered_as e s ≡ true → is_offered_as e (shared_after_all s since) ≡ true → HasSlowSubscriber 0 s since
      offered before now =
          let t : SharedFlowState T = shared_after_all s since in
          let grown = history_grown s since in
          let is_last : newest s ≡ e = (Decides-eqb (newest s) e).0 (and_parts (is_offering s) (newest s == e) before).1 in
          let still_last : newest t ≡ e = (Decides-eqb (newest t) e).0 (and_parts (is_offering t) (newest t == e) now).1 in
          let same_log = none_came grown.more grown.log (still_last ∙ sym is_last) in
          offering_to 0 now (omega (arith, same_log))

  pub admits : (config : Config) (h : History T) → IsLegalShared config h → EachWaits config h
  admits config h legal before since is e = admitted_from (state_after config before) since (always_sound config before) (always_keeping config before) (always_in_order config before)
      (legal_right shared_flow (first_state config) before since (subst (IsLegalFrom (first_state config)) is legal.1)) e
