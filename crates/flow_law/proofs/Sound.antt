-- What holds in each state that a history leads to.
use Rattle.std.proofs.Common.{inl, inr, ◌≡◌, ℕ, ◌+◌, ◌-◌, ◌≤◌, not, ◌==◌, List, [], ◌∷◌, ◌++◌, length, map, Some, refl, sym, ap, ◌∙◌, subst, arith, append_assoc, append-nil}
use Rattle.std.specs.Prelude.{filter, max}
use Rattle.std.specs.List.{AllByRecursion, slice_get}
use Rattle.std.proofs.lemmas.Bool.{cond_both, or_parts, both_ways, cond-true, cond-false}
use Rattle.std.proofs.lemmas.List.{map-append, length-map, length_push}
use Rattle.std.proofs.lemmas.Option.{slice_get_past}
use Rattle.flow_law.specs.declared.config.Config.{Config}
use Rattle.flow_law.specs.flow.SharedFlow.{Numbered, Subscriber, SharedFlowState, first_state, capacity, cache_start, entry, values, is_offering, is_offered_as, stand_at}
use Rattle.flow_law.specs.flow.EmitRule.{append, suspend, drop_oldest, numbered}
use Rattle.flow_law.specs.flow.SharedStep.{admit, settle, withdraw, advance, leave, keep_own}
use Rattle.flow_law.specs.flow.SharedHistory.{History, state_after}
use Rattle.flow_law.specs.laws.Laws.{RisesTo, numbers}
use Rattle.flow_law.proofs.Moves.{Keeps, history_keeps, admit_keeps}
use Rattle.flow_law.proofs.Queue.{Calm, fits_drops, calm_keeps, opened_fits}
use Rattle.flow_law.proofs.Rows.{every_weaker, every_snoc, every_filter, every_map, every_move, every_with_own, rises_more, rises_filter}

within_longer : {T : Type 0} (us : List (Subscriber T)) (a b : ℕ) → a ≤ b → AllByRecursion (λ u. u.position ≤ a) us → AllByRecursion (λ u. u.position ≤ b) us
within_longer us a b l h = every_weaker (λ u. u.position ≤ a) (λ u. u.position ≤ b) (λ u k. omega (arith, l, k)) us h

issued_more : {T : Type 0} (us : List (Subscriber T)) (n : ℕ) → AllByRecursion (λ u. u.number ≤ n) us → AllByRecursion (λ u. u.number ≤ n + 1) us
issued_more us n h = every_weaker (λ u. u.number ≤ n) (λ u. u.number ≤ n + 1) (λ u k. omega (arith, k)) us h

module _ {T : Type 0} where
  -- subscribers have positions within the emitted values, and numbers that were issued
  pub record Placed (s : SharedFlowState T) : Type 0 where
    pub reset_mark : s.reset_mark ≤ length s.emitted
    pub within : AllByRecursion (λ u. u.position ≤ length s.emitted) s.subscribers
    pub issued : AllByRecursion (λ u. u.number ≤ s.issued) s.subscribers

  pub record Sound (s : SharedFlowState T) : Type 0 where
    pub calm : Calm s
    pub placed : Placed s
    pub rises : RisesTo 0 (numbers s) s.issued

  pub longer_placed : (s : SharedFlowState T) (e : Numbered T) (q : List (Numbered T)) → Placed s → Placed (record s { emitted = s.emitted ++ e ∷ []; queue = q })
  longer_placed s e q h = let more : length (s.emitted ++ e ∷ []) ≡ length s.emitted + 1 = length_push s.emitted e in record {
    reset_mark = omega (arith, more, h.reset_mark);
    within = within_longer s.subscribers (length s.emitted) (length (s.emitted ++ e ∷ [])) (omega (arith, more)) h.within;
    issued = h.issued;
  }

  -- placed does not look at the queue
  pub requeued : (s : SharedFlowState T) (q : List (Numbered T)) → Placed s → Placed (record s { queue = q })
  requeued s q h = record { reset_mark = h.reset_mark; within = h.within; issued = h.issued }

  pub append_placed : (s : SharedFlowState T) (v : T) → Placed s → Placed (append v s)
  append_placed s v h = let p = longer_placed s (numbered v s) s.queue h in record {
    reset_mark = p.reset_mark;
    within = p.within;
    issued = issued_more s.subscribers s.issued h.issued;
  }

  pub admit_placed : (s : SharedFlowState T) (q : List (Numbered T)) → Placed s → Placed (admit s q)
  admit_placed s q h = admit_keeps Placed (λ t e r _ k. longer_placed (record t { queue = e ∷ r }) e r k) s q (requeued s q h)

  pub withdraw_placed : (e : ℕ) (s : SharedFlowState T) → Placed s → Placed (withdraw e s)
  withdraw_placed e s h = cond_both (is_offered_as e s) (record s { subscribers = map (stand_at (length s.emitted)) s.subscribers }) (record s { queue = filter (λ q. not (q.number == e)) s.queue })
      Placed
      (λ _. record {
        reset_mark = h.reset_mark;
        within = every_map (λ u. u.position ≤ length s.emitted) (λ u. u.position ≤ length s.emitted) (stand_at (length s.emitted)) (λ u k. omega arith) s.subscribers h.within;
        issued = every_map (λ u. u.number ≤ s.issued) (λ u. u.number ≤ s.issued) (stand_at (length s.emitted)) (λ u k. k) s.subscribers h.issued;
      })
      (λ _. requeued s _ h)

  pub advance_placed : (u p : ℕ) (s : SharedFlowState T) → p ≤ length s.emitted → Placed s → Placed (advance u p s)
  advance_placed u p s l h = record {
    reset_mark = h.reset_mark;
    within = every_move (λ u. u.position ≤ length s.emitted) u p (λ u k. l) s.subscribers h.within;
    issued = every_move (λ u. u.number ≤ s.issued) u p (λ u k. k) s.subscribers h.issued;
  }

  pub own_placed : (u : ℕ) (own : List T) (s : SharedFlowState T) → Placed s → Placed (keep_own u own s)
  own_placed u own s h = record {
    reset_mark = h.reset_mark;
    within = every_with_own (λ u. u.position ≤ length s.emitted) u own (λ _ k. k) s.subscribers h.within;
    issued = every_with_own (λ u. u.number ≤ s.issued) u own (λ _ k. k) s.subscribers h.issued;
  }

  pub leave_placed : (u : ℕ) (s : SharedFlowState T) → Placed s → Placed (leave u s)
  leave_placed u s h = record {
    reset_mark = h.reset_mark;
    within = every_filter (λ u. u.position ≤ length s.emitted) _ s.subscribers h.within;
    issued = every_filter (λ u. u.number ≤ s.issued) _ s.subscribers h.issued;
  }

  pub entry_within : (s : SharedFlowState T) → s.reset_mark ≤ length s.emitted → entry s ≤ length s.emitted
  entry_within s h = cond_both (is_offering s) (length s.emitted - 1) (cache_start s) (λ p. p ≤ length s.emitted) (λ _. omega arith) (λ _. omega (arith, h))

  pub here_within : (s : SharedFlowState T) (p : ℕ) (v : T) → slice_get (values s) p ≡ Some v → p + 1 ≤ length s.emitted
  here_within s p v e = elim (Rattle.std.proofs.lemmas.Bool.cases_lt p (length s.emitted)) as (λ _. p + 1 ≤ length s.emitted) [
    | inl l ↦ omega (arith, l)
    | inr g ↦ let past : length (values s) ≤ p = omega (arith, length-map s.emitted (λ (e : Numbered T). e.value), g) in let none = slice_get_past (values s) p past in absurd (cc)
  ]

  pub drop_placed : (s : SharedFlowState T) → Placed s → Placed (drop_oldest s)
  drop_placed s h = record {
    reset_mark = h.reset_mark;
    within = every_map (λ u. u.position ≤ length s.emitted) (λ u. u.position ≤ length s.emitted) (λ u. stand_at (max u.position (length s.emitted - capacity s)) u) (λ u k. omega (arith, k)) s.subscribers h.within;
    issued = every_map (λ u. u.number ≤ s.issued) (λ u. u.number ≤ s.issued) (λ u. stand_at (max u.position (length s.emitted - capacity s)) u) (λ u k. k) s.subscribers h.issued;
  }

  -- ---- numbers

  numbers_join : (a b : List (Numbered T)) (e : Numbered T) → b ≡ [] → map (λ e. e.number) ((a ++ e ∷ []) ++ b) ≡ map (λ e. e.number) (a ++ b) ++ e.number ∷ []
  numbers_join a b e h = ap (λ l. map (λ (e : Numbered T). e.number) ((a ++ e ∷ []) ++ l)) h
      ∙ ap (map (λ (e : Numbered T). e.number)) (append-nil (a ++ e ∷ []))
      ∙ map-append (λ (e : Numbered T). e.number) a (e ∷ [])
      ∙ ap (λ l. map (λ (e : Numbered T). e.number) l ++ e.number ∷ []) (sym (append-nil a))
      ∙ ap (λ l. map (λ (e : Numbered T). e.number) (a ++ l) ++ e.number ∷ []) (sym h)

  append_rises : (s : SharedFlowState T) (v : T) → s.queue ≡ [] → RisesTo 0 (numbers s) s.issued → RisesTo 0 (numbers (append v s)) (s.issued + 1)
  append_rises s v e h = subst (λ ns. RisesTo 0 ns (s.issued + 1)) (sym (numbers_join s.emitted s.queue (numbered v s) e)) (rises_more 0 s.issued (numbers s) h)

  suspend_rises : (s : SharedFlowState T) (v : T) → RisesTo 0 (numbers s) s.issued → RisesTo 0 (numbers (suspend v s)) (s.issued + 1)
  suspend_rises s v h = subst (λ ns. RisesTo 0 ns (s.issued + 1))
      (sym (ap (map (λ (e : Numbered T). e.number)) (sym (append_assoc s.emitted s.queue (numbered v s ∷ []))) ∙ map-append (λ (e : Numbered T). e.number) (s.emitted ++ s.queue) (numbered v s ∷ [])))
      (rises_more 0 s.issued (numbers s) h)

  settle_rises : (s : SharedFlowState T) → RisesTo 0 (numbers s) s.issued → RisesTo 0 (numbers (settle s)) (settle s).issued
  settle_rises s h = admit_keeps (λ t. RisesTo 0 (numbers t) t.issued)
      (λ t e q _ k. subst (λ l. RisesTo 0 (map (λ (e : Numbered T). e.number) l) t.issued) (sym (append_assoc t.emitted (e ∷ []) q)) k) s s.queue h

  withdraw_rises : (e : ℕ) (s : SharedFlowState T) → RisesTo 0 (numbers s) s.issued → RisesTo 0 (numbers (withdraw e s)) (withdraw e s).issued
  withdraw_rises e s h = cond_both (is_offered_as e s) (record s { subscribers = map (stand_at (length s.emitted)) s.subscribers }) (record s { queue = filter (λ q. not (q.number == e)) s.queue })
      (λ t. RisesTo 0 (numbers t) t.issued) (λ _. h) (λ _. rises_filter _ 0 s.issued s.emitted s.queue h)

  enroll_rises : (s : SharedFlowState T) → RisesTo 0 (numbers s) s.issued → RisesTo 0 (numbers s) (s.issued + 1)
  enroll_rises s h = Rattle.flow_law.proofs.Rows.rises_higher 0 s.issued (s.issued + 1) (numbers s) (omega arith) h

  pub sound_keeps : (s : SharedFlowState T) → Sound s → Keeps Sound s
  sound_keeps s h = let calm = calm_keeps s h.calm in record {
    appends = λ v free. record { calm = calm.appends v free; placed = append_placed s v h.placed; rises = append_rises s v (h.calm.idle free) h.rises };
    suspends = λ v b o. record {
      calm = calm.suspends v b o;
      placed = record { reset_mark = h.placed.reset_mark; within = h.placed.within; issued = issued_more s.subscribers s.issued h.placed.issued };
      rises = suspend_rises s v h.rises;
    };
    drops = λ v b o. record {
      calm = calm.drops v b o;
      placed = drop_placed (append v s) (append_placed s v h.placed);
      rises = append_rises s v (fits_drops s.config.overflow s.queue o h.calm.fits) h.rises;
    };
    withdraws = λ e. record { calm = calm.withdraws e; placed = admit_placed (withdraw e s) _ (withdraw_placed e s h.placed); rises = settle_rises (withdraw e s) (withdraw_rises e s h.rises) };
    advances = λ u p v at here. record {
      calm = calm.advances u p v at here;
      placed = admit_placed (advance u (p + 1) s) _ (advance_placed u (p + 1) s (here_within s p v here) h.placed);
      rises = settle_rises (advance u (p + 1) s) h.rises;
    };
    leaves = λ u. record { calm = calm.leaves u; placed = admit_placed (leave u s) _ (leave_placed u s h.placed); rises = settle_rises (leave u s) h.rises };
    enrolls = λ first. record {
      calm = calm.enrolls first;
      placed = record {
        reset_mark = h.placed.reset_mark;
        within = every_snoc (λ u. u.position ≤ length s.emitted) s.subscribers (record { number = s.issued + 1; own = first; position = entry s }) h.placed.within (entry_within s h.placed.reset_mark);
        issued = every_snoc (λ u. u.number ≤ s.issued + 1) s.subscribers (record { number = s.issued + 1; own = first; position = entry s }) (issued_more s.subscribers s.issued h.placed.issued) (omega arith);
      };
      rises = enroll_rises s h.rises;
    };
    takes_own = λ u v own e. record { calm = calm.takes_own u v own e; placed = own_placed u own s h.placed; rises = h.rises };
    forgets = record { calm = calm.forgets; placed = record { reset_mark = omega arith; within = h.placed.within; issued = h.placed.issued }; rises = h.rises };
  }

  pub opened_sound : (config : Config) → Sound (first_state config)
  opened_sound config = record {
    calm = record { fits = opened_fits (Numbered T) config.overflow; idle = λ _. refl };
    placed = record { reset_mark = omega arith; within = tt; issued = tt };
    rises = omega arith;
  }

  pub always_sound : (config : Config) (h : History T) → Sound (state_after config h)
  always_sound config h = history_keeps Sound sound_keeps (first_state config) h (opened_sound config)
