-- Lists whose last values a ring keeps, and subscribers whose positions are within a window.
-- The key facts: `copied_more`, `within_least` (no subscriber needs a value before the window), `within-more`, `offered_full`.
use Rattle.std.proofs.Common.{inl, inr, ◌≡◌, ◌≢◌, ℕ, zero, suc, ◌+◌, ◌-◌, ◌≤◌, ◌<◌, min, Bool, true, false, not, ◌&&◌, ◌||◌, ◌==◌, if◌then◌else◌, nat_le, List, [], ◌∷◌, ◌++◌, length, map, take, drop, Some, Result, Ok, Err, OnErr, refl, sym, ap, ◌∙◌, subst, arith}
use Rattle.std.specs.List.{list_any, slice_get}
use Rattle.std.specs.Option.{IfSome}
use Rattle.std.proofs.lemmas.Bool.{or_parts}
use Rattle.std.proofs.lemmas.Bool.Decides.{leb_tells, eqb_tells}
use Rattle.std.proofs.lemmas.List.{drop-drop, length-drop, take_all}
use Rattle.flow_law.specs.declared.states.SharedFlowState.{SharedFlowState}
use Rattle.flow_law.specs.declared.states.Subscriber.{Subscriber}
use Rattle.flow_law.specs.flow.SharedStep.{advance}
use Rattle.flow_law.specs.flow.SharedFlow.{cache_start, position_of, raise_to, stand_at, move_to, without, with_own}
use Rattle.flow_law.specs.flow.Standing.{Core, StandsFor, least_position}
use Rattle.flow_law.proofs.HoldingLemmas.{held_from, stands-subscribers}
use Rattle.flow_law.proofs.CoveringLemmas.{slice_get-drop, least_position_offered, least_position-position_of}
use Rattle.flow_law.proofs.Rows.{every_snoc, every_filter, every_move, every_with_own, position_holds}
use Rattle.flow_containers.specs.Subscribers.{is_full}
use Rattle.flow_containers.specs.Receiving.{was_last_at}
use Rattle.flow_core.specs.SharedCore.{AreInWindow}

-- ---- lists

take_more : {X : Type 0} (k : ℕ) (ys : List X) (v : X) → slice_get ys k ≡ Some v → take (k + 1) ys ≡ take k ys ++ v ∷ []
take_more zero [] v at = absurd (cc)
take_more (suc k) [] v at = absurd (cc)
take_more {X} zero (y ∷ ys) v at = ap (λ x. x ∷ []) (same y v at)
  where
    same : (a b : X) → Some a ≡ Some b → a ≡ b
    same a b e = cc
take_more (suc k) (y ∷ ys) v at =
    let further : suc k + 1 ≡ suc (k + 1) = omega arith in
    rw further (ap (λ l. y ∷ l) (take_more k ys v at))

kept_at : {X : Type 0} (from place : ℕ) (xs : List X) (v : X) → from ≤ place → slice_get xs place ≡ Some v → slice_get (drop from xs) (place - from) ≡ Some v
kept_at from place xs v le at =
    let whole : from + (place - from) ≡ place = omega (arith, le) in
    sym (slice_get-drop (place - from) (drop from xs))
    ∙ ap (λ l. slice_get l 0) (drop-drop (place - from) from xs ∙ ap (λ n. drop n xs) whole)
    ∙ slice_get-drop place xs ∙ at

-- a copy more, of the value at this place
pub copied_more : {X : Type 0} (from place : ℕ) (xs : List X) (v : X) → from ≤ place → slice_get xs place ≡ Some v
    → take (place - from) (drop from xs) ++ v ∷ [] ≡ take (place + 1 - from) (drop from xs)
copied_more from place xs v le at =
    let next : place - from + 1 ≡ place + 1 - from = omega (arith, le) in
    sym (take_more (place - from) (drop from xs) v (kept_at from place xs v le at)) ∙ ap (λ n. take n (drop from xs)) next

-- a fact holds in case of an error
pub of_an_error : {X E P : Type 0} (r : Result X E) → P → OnErr r P
of_an_error (Ok x) holds = tt
of_an_error (Err e) holds = holds

-- at the end of the list all values are copied
pub all_copied : {X : Type 0} (from place : ℕ) (xs : List X) → length xs ≤ place → take (place - from) (drop from xs) ≡ drop from xs
all_copied from place xs le = take_all (place - from) (drop from xs) (omega (arith, le, length-drop from xs))

-- if there is a value at this place, there is something to copy
pub more_to_copy : {X : Type 0} (from place : ℕ) (xs : List X) (v : X) → from ≤ place → slice_get xs place ≡ Some v → drop from xs ≢ []
more_to_copy from place xs v le at none =
    nowhere (place - from) v (sym (ap (λ l. slice_get l (place - from)) none) ∙ kept_at from place xs v le at)
  where
    nowhere : {X : Type 0} (k : ℕ) (v : X) → slice_get [] k ≡ Some v → ⊥
    nowhere zero v found = absurd (cc)
    nowhere (suc k) v found = absurd (cc)

-- ---- subscribers within a window

module _ {T : Type 0} where
  -- no subscriber needs a value before the window
  pub within_least : (floor n w b : ℕ) (us : List (Subscriber T)) → AreInWindow floor n w us → n ≤ b + w → n ≤ least_position b us + w
  within_least floor n w b [] h le = le
  within_least floor n w b (u ∷ us) h le = omega (arith, h.0.2, within_least floor n w b us h.1 le)

  pub floor_least : (floor n w b : ℕ) (us : List (Subscriber T)) → AreInWindow floor n w us → floor ≤ b → floor ≤ least_position b us
  floor_least floor n w b [] h le = le
  floor_least floor n w b (u ∷ us) h le = omega (arith, h.0.0, floor_least floor n w b us h.1 le)

  -- one more value, if no subscriber was a whole window behind
  pub within-more : (floor n w : ℕ) (us : List (Subscriber T)) → AreInWindow floor n w us → is_full w n us ≡ false → AreInWindow floor (n + 1) w us
  within-more floor n w [] h free = tt
  within-more floor n w (u ∷ us) h free =
      let parts = or_parts (nat_le w (n - u.position)) (is_full w n us) free in
      let near : n - u.position < w = elim (leb_tells w (n - u.position)) [
        | inl far ↦ absurd (cc (far.0, parts.0))
        | inr close ↦ omega (arith, close.1)
      ] in
      ((h.0.0, omega (arith, h.0.1), omega (arith, near, h.0.1)), within-more floor n w us h.1 parts.1)

  -- one more value, after which all subscribers are moved into the window
  pub within-raised : (floor n w : ℕ) (us : List (Subscriber T)) → AreInWindow floor n w us → 0 < w → w ≤ n → AreInWindow (n + 1 - w) (n + 1) w (raise_to (n + 1 - w) us)
  within-raised floor n w [] h some le = tt
  within-raised floor n w (u ∷ us) h some le =
      ((omega arith, omega (arith, h.0.1, some, le), omega (arith, le)), within-raised floor n w us h.1 some le)

  pub within-gathered : (n w : ℕ) (us : List (Subscriber T)) → AreInWindow n n w (map (stand_at n) us)
  within-gathered n w [] = tt
  within-gathered n w (u ∷ us) = ((omega arith, omega arith, omega arith), within-gathered n w us)

  -- if a subscriber is a whole window behind, at least a window of values was emitted
  pub full_long : (w n : ℕ) (us : List (Subscriber T)) → 0 < w → is_full w n us ≡ true → w ≤ n
  full_long w n [] some full = absurd (cc)
  full_long w n (u ∷ us) some full =
      elim (leb_tells w (n - u.position)) [
        | inl far ↦ omega (arith, far.1)
        | inr near ↦ full_long w n us some (subst (λ t. (t || is_full w n us) ≡ true) near.0 full)
      ]

  -- in a window of one, a subscriber that is a whole window behind has not received the last value
  pub offered_full : (floor n w : ℕ) (us : List (Subscriber T)) → AreInWindow floor n w us → w ≡ 1 → is_full w n us ≡ list_any (λ u. (n - u.position) == 1) us
  offered_full floor n w [] h one = refl
  offered_full floor n w (u ∷ us) h one =
      let here : nat_le w (n - u.position) ≡ (n - u.position == 1) = elim (eqb_tells (n - u.position) 1) [
        | inl last ↦ elim (leb_tells w (n - u.position)) [
          | inl far ↦ far.0 ∙ sym last.0
          | inr near ↦ absurd (omega (arith, near.1, last.1, one))
        ]
        | inr other ↦ elim (leb_tells w (n - u.position)) [
          | inl far ↦ absurd (other.1 (omega (arith, far.1, one, h.0.2)))
          | inr near ↦ near.0 ∙ sym other.0
        ]
      ] in
      ap (λ t. t || is_full w n us) here ∙ ap (λ t. (n - u.position == 1) || t) (offered_full floor n w us h.1 one)

  pub within-moved : (floor n w number p : ℕ) (us : List (Subscriber T)) → AreInWindow floor n w us → floor ≤ p → p ≤ n → n ≤ p + w → AreInWindow floor n w (move_to number p us)
  within-moved floor n w number p us h low high near = every_move (λ u. (floor ≤ u.position) × (u.position ≤ n) × (n ≤ u.position + w)) number p (λ u _. (low, high, near)) us h

  pub within-without : (floor n w number : ℕ) (us : List (Subscriber T)) → AreInWindow floor n w us → AreInWindow floor n w (without number us)
  within-without floor n w number us h = every_filter (λ u. (floor ≤ u.position) × (u.position ≤ n) × (n ≤ u.position + w)) (λ u. not (u.number == number)) us h

  pub within-with_own : (floor n w number : ℕ) (own : List T) (us : List (Subscriber T)) → AreInWindow floor n w us → AreInWindow floor n w (with_own number own us)
  within-with_own floor n w number own us h = every_with_own (λ u. (floor ≤ u.position) × (u.position ≤ n) × (n ≤ u.position + w)) number own (λ u k. k) us h

  pub within-snoc : (floor n w : ℕ) (us : List (Subscriber T)) (v : Subscriber T) → AreInWindow floor n w us → floor ≤ v.position → v.position ≤ n → n ≤ v.position + w → AreInWindow floor n w (us ++ v ∷ [])
  within-snoc floor n w us v h low high near = every_snoc (λ u. (floor ≤ u.position) × (u.position ≤ n) × (n ≤ u.position + w)) us v h (low, high, near)

  -- the bounds of a subscriber's position
  pub within_at : (floor n w number p : ℕ) (us : List (Subscriber T)) → AreInWindow floor n w us → position_of number us ≡ Some p → (floor ≤ p) × (p ≤ n) × (n ≤ p + w)
  within_at floor n w number p us h at =
      let found = position_holds (λ u. (floor ≤ u.position) × (u.position ≤ n) × (n ≤ u.position + w)) number p us h at in
      subst (λ q. (floor ≤ q) × (q ≤ n) × (n ≤ q + w)) found.2 found.3

  -- if a value is being offered, the first needed value is no later
  pub offered_least : (floor n w b : ℕ) (us : List (Subscriber T)) → AreInWindow floor n w us → w ≡ 1 → is_full w n us ≡ true → least_position b us ≤ n - 1
  offered_least floor n w b us h one full = (least_position_offered b n us (sym (offered_full floor n w us h one) ∙ full)).0

  pub least_at : (b number p : ℕ) (us : List (Subscriber T)) → position_of number us ≡ Some p → least_position b us ≤ p
  least_at b number p us at = subst (λ o. IfSome o (λ q. least_position b us ≤ q)) at (least_position-position_of b number us)

  -- ---- one subscriber moves on

  -- the least position was the lesser of the subscriber's old position and the least position now
  pub least_position-moved : (b number p q : ℕ) (us : List (Subscriber T)) → position_of number us ≡ Some p → p ≤ q
      → least_position b us ≡ min p (least_position b (move_to number q us))
  least_position-moved b number p q [] at le = absurd (cc)
  least_position-moved b number p q (u ∷ us) at le =
      elim (u.number == number) as (λ t. (if t then Some u.position else position_of number us) ≡ Some p
      → min u.position (least_position b us) ≡ min p (least_position b (if t then stand_at q u ∷ us else u ∷ move_to number q us))) [
        | true ↦ λ here. let same : u.position ≡ p = cc in omega (arith, same, le)
        | false ↦ λ there. omega (arith, least_position-moved b number p q us there le)
      ] at

  least_position_any : (b p : ℕ) (us : List (Subscriber T)) → list_any (λ u. u.position == p) us ≡ true → least_position b us ≤ p
  least_position_any b p [] some = absurd (cc)
  least_position_any b p (u ∷ us) some =
      elim (eqb_tells u.position p) [
        | inl here ↦ omega (arith, here.1)
        | inr there ↦ omega (arith, least_position_any b p us (subst (λ t. (t || list_any (λ v. v.position == p) us) ≡ true) there.0 some))
      ]

  -- the least position stays unless the subscriber was the last one at the first position that is held
  pub least_stays : (b number p : ℕ) (us : List (Subscriber T)) → position_of number us ≡ Some p
      → was_last_at (least_position b us) p (move_to number (p + 1) us) ≡ false → least_position b us ≡ least_position b (move_to number (p + 1) us)
  least_stays b number p us at not_last =
      let moved = least_position-moved b number p (p + 1) us at (omega arith) in
      elim (eqb_tells p (least_position b us)) [
        | inl here ↦
            let some : not (list_any (λ u. u.position == p) (move_to number (p + 1) us)) ≡ false =
            subst (λ t. (t && not (list_any (λ u. u.position == p) (move_to number (p + 1) us))) ≡ false) here.0 not_last in
            omega (arith, moved, least_position_any b p (move_to number (p + 1) us) (is_true _ some))
        | inr there ↦ omega (arith, moved, there.1)
      ]
    where
      is_true : (t : Bool) → not t ≡ false → t ≡ true
      is_true true e = refl
      is_true false e = absurd (cc)

  -- then a core that held only needed values still does
  pub stays_tidy : (core : Core T) (s : SharedFlowState T) (number p : ℕ) → StandsFor core s → core.reset_mark ≤ core.appended → position_of number core.subscribers ≡ Some p
      → was_last_at (core.appended - length core.held) p (move_to number (p + 1) core.subscribers) ≡ false
      → StandsFor (record core { subscribers = move_to number (p + 1) core.subscribers }) (advance number (p + 1) s)
  stays_tidy core s number p stands marked at not_last =
      let here : position_of number s.subscribers ≡ Some p = sym (ap (position_of number) stands.subscribers) ∙ at in
      let not_first : was_last_at (least_position (cache_start s) s.subscribers) p (move_to number (p + 1) s.subscribers) ≡ false =
      sym (ap (λ n. was_last_at n p (move_to number (p + 1) s.subscribers)) (held_from core s stands marked))
      ∙ sym (ap (λ us. was_last_at (core.appended - length core.held) p (move_to number (p + 1) us)) stands.subscribers) ∙ not_last in
      stands-subscribers core s (move_to number (p + 1) core.subscribers) (move_to number (p + 1) s.subscribers) core.issued s.issued stands
      (ap (move_to number (p + 1)) stands.subscribers) stands.issued (least_stays (cache_start s) number p s.subscribers here not_first)
