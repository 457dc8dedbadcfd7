-- The numbers of subscribers rise along their list, so each subscriber in it is found by its number.
use Rattle.std.proofs.Common.{inl, inr, ◌≡◌, ℕ, ◌+◌, ◌-◌, ◌≤◌, ◌<◌, Bool, true, false, not, ◌==◌, List, [], ◌∷◌, length, map, Some, refl, sym, ap, ◌∙◌, subst, arith, ne_eqb, eq-eqb}
use Rattle.std.specs.Prelude.{max, filter}
use Rattle.std.specs.List.{list_any}
use Rattle.std.proofs.lemmas.Bool.{cond_both, or_cases, cond-true, cond-false}
use Rattle.std.proofs.lemmas.List.{map-append}
use Rattle.flow_law.specs.declared.config.Config.{Config}
use Rattle.flow_law.specs.flow.SharedFlow.{Subscriber, SharedFlowState, first_state, capacity, entry, is_offered_as, position_of, stand_at, move_to, with_own}
use Rattle.flow_law.specs.flow.EmitRule.{append}
use Rattle.flow_law.specs.flow.SharedStep.{settle, withdraw}
use Rattle.flow_law.specs.flow.SharedHistory.{History, state_after}
use Rattle.flow_law.specs.laws.Laws.{RisesTo}
use Rattle.flow_law.proofs.Moves.{Keeps, history_keeps, admit_keeps}
use Rattle.flow_law.proofs.Rows.{rises_from, rises_more, rises_higher}

module _ {T : Type 0} where
  abbrev pub numbers_of : List (Subscriber T) → List ℕ
  numbers_of = map (λ u. u.number)

  abbrev pub InOrder : SharedFlowState T → Type 0
  InOrder s = RisesTo 0 (numbers_of s.subscribers) s.issued

  numbers-move_to : (n p : ℕ) (us : List (Subscriber T)) → numbers_of (move_to n p us) ≡ numbers_of us
  numbers-move_to n p [] = refl
  numbers-move_to n p (u ∷ us) = cond_both (u.number == n) (stand_at p u ∷ us) (u ∷ move_to n p us) (λ l. numbers_of l ≡ numbers_of (u ∷ us)) (λ _. refl) (λ _. ap (λ l. u.number ∷ l) (numbers-move_to n p us))

  numbers-with_own : (n : ℕ) (own : List T) (us : List (Subscriber T)) → numbers_of (with_own n own us) ≡ numbers_of us
  numbers-with_own n own [] = refl
  numbers-with_own n own (u ∷ us) = cond_both (u.number == n) (record u { own = own } ∷ us) (u ∷ with_own n own us) (λ l. numbers_of l ≡ numbers_of (u ∷ us)) (λ _. refl) (λ _. ap (λ l. u.number ∷ l) (numbers-with_own n own us))

  numbers-map : (f : ℕ → ℕ) (us : List (Subscriber T)) → numbers_of (map (λ u. stand_at (f u.position) u) us) ≡ numbers_of us
  numbers-map f [] = refl
  numbers-map f (u ∷ us) = ap (λ l. u.number ∷ l) (numbers-map f us)

  without_rises : (test : Subscriber T → Bool) (b top : ℕ) (us : List (Subscriber T)) → RisesTo b (numbers_of us) top → RisesTo b (numbers_of (filter test us)) top
  without_rises test b top [] h = h
  without_rises test b top (u ∷ us) h = cond_both (test u) (u ∷ filter test us) (filter test us) (λ l. RisesTo b (numbers_of l) top)
      (λ _. (h.0, without_rises test u.number top us h.1))
      (λ _. without_rises test b top us (rises_from b u.number top (numbers_of us) (omega (arith, h.0)) h.1))

  settle_in_order : (s : SharedFlowState T) → InOrder s → InOrder (settle s)
  settle_in_order s h = admit_keeps InOrder (λ t e q _ k. k) s s.queue h

  pub in_order_keeps : (s : SharedFlowState T) → InOrder s → Keeps InOrder s
  in_order_keeps s h =
      let more : RisesTo 0 (numbers_of s.subscribers) (s.issued + 1) = rises_higher 0 s.issued (s.issued + 1) (numbers_of s.subscribers) (omega arith) h in record {
        appends = λ v free. more;
        suspends = λ v _ _. more;
        drops = λ v _ _. subst (λ l. RisesTo 0 l (s.issued + 1)) (sym (numbers-map (λ p. max p (length (append v s).emitted - capacity s)) s.subscribers)) more;
        withdraws = λ e. settle_in_order (withdraw e s) (cond_both (is_offered_as e s) (record s { subscribers = map (stand_at (length s.emitted)) s.subscribers }) (record s { queue = filter (λ q. not (q.number == e)) s.queue })
            InOrder (λ _. subst (λ l. RisesTo 0 l s.issued) (sym (numbers-map (λ _. length s.emitted) s.subscribers)) h) (λ _. h));
        advances = λ u p v at here. settle_in_order _ (subst (λ l. RisesTo 0 l s.issued) (sym (numbers-move_to u (p + 1) s.subscribers)) h);
        leaves = λ u. settle_in_order _ (without_rises _ 0 s.issued s.subscribers h);
        enrolls = λ first. subst (λ l. RisesTo 0 l (s.issued + 1)) (sym (map-append (λ (u : Subscriber T). u.number) s.subscribers (record { number = s.issued + 1; own = first; position = entry s } ∷ []))) (rises_more 0 s.issued (numbers_of s.subscribers) h);
        takes_own = λ u v own _. subst (λ l. RisesTo 0 l s.issued) (sym (numbers-with_own u own s.subscribers)) h;
        forgets = h;
      }

  pub always_in_order : (config : Config) (h : History T) → InOrder (state_after config h)
  always_in_order config h = history_keeps InOrder in_order_keeps (first_state config) h (let none : 0 ≤ 0 = omega arith in none)

  -- some subscriber in the list passes the test, and is found by its number
  pub found_by_number : (test : Subscriber T → Bool) (b top : ℕ) (us : List (Subscriber T)) → RisesTo b (numbers_of us) top → list_any test us ≡ true
      → (u : Subscriber T) × (b < u.number) × (position_of u.number us ≡ Some u.position) × (test u ≡ true)
  found_by_number test b top [] h e = absurd (let no : false ≡ true = e in cc)
  found_by_number test b top (u ∷ us) h e = elim (or_cases (test u) (list_any test us) e) as (λ _. (w : Subscriber T) × (b < w.number) × (position_of w.number (u ∷ us) ≡ Some w.position) × (test w ≡ true)) [
    | inl t ↦ (u, h.0, cond-true (u.number == u.number) (Some u.position) (position_of u.number us) (eq-eqb u.number u.number refl), t)
    | inr t ↦ let found = found_by_number test u.number top us h.1 t in
        (found.0, omega (arith, h.0, found.1), cond-false (u.number == found.0.number) (Some u.position) (position_of found.0.number us) (ne_eqb u.number found.0.number (λ z. omega (arith, found.1, z))) ∙ found.2, found.3)
  ]
