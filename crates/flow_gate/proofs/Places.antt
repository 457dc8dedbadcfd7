-- The places of tokens' knowledge among the views.
use Rattle.std.proofs.Common.{◌≡◌, ◌≢◌, ℕ, zero, suc, ◌≤◌, ◌<◌, ◌⊎◌, List, [], ◌∷◌, ◌++◌, map, length, set, refl, sym, ap, subst, inl, inr, ⊎_elim, arith}
use mathlib.Core.Option.{some, some-injective, some-ne-none}
use mathlib.Core.Logic.{dite}
use native.Mathlib.Decide.{ℕ_discrete}
use lib.ListN.{get_elem?}
use Rattle.std.specs.List.{AllByRecursion}
use Rattle.atomic_table.proofs.Lists.{at_set}
use Rattle.flow_law.specs.declared.history.Knowledge.{Knowledge}
use Rattle.flow_gate.specs.declared.view.SeatView.{SeatView}
use Rattle.flow_law.specs.history.Growth.{IsMadeBy, IsApartFrom}
use Rattle.flow_gate.specs.Rule.{KnownAt}
use Rattle.flow_law.proofs.Names.{numbered_more}

module _ {X : Type 0} where
  pub at_only : (x y : X) (a : ℕ) → get_elem? (x ∷ []) a ≡ some y → (a ≡ 0) × (x ≡ y)
  at_only x y zero e = (refl, some-injective x y e)
  at_only x y (suc a) e = absurd (some-ne-none y (sym e))

  pub at_two : (x y z : X) (a : ℕ) → get_elem? (x ∷ y ∷ []) a ≡ some z → ((a ≡ 0) × (x ≡ z)) ⊎ ((a ≡ 1) × (y ≡ z))
  at_two x y z zero e = inl (refl, some-injective x z e)
  at_two x y z (suc zero) e = inr (refl, some-injective y z e)
  at_two x y z (suc (suc a)) e = absurd (some-ne-none z (sym e))

  pub at_none : (y : X) (a : ℕ) → get_elem? [] a ≡ some y → ⊥
  at_none y a e = some-ne-none y (sym e)

  pub at_inside : (xs : List X) (a : ℕ) (y : X) → get_elem? xs a ≡ some y → a < length xs
  at_inside [] a y e = absurd (some-ne-none y (sym e))
  at_inside (x ∷ xs) zero y e = omega arith
  at_inside (x ∷ xs) (suc a) y e = let h = at_inside xs a y e in omega arith

  -- an element of a list with one appended is the last one or an earlier one
  pub at_end : (xs : List X) (x y : X) (a : ℕ) → get_elem? (xs ++ x ∷ []) a ≡ some y → (get_elem? xs a ≡ some y) ⊎ ((a ≡ length xs) × (x ≡ y))
  at_end [] x y a e = inr (at_only x y a e)
  at_end (z ∷ xs) x y zero e = inl e
  at_end (z ∷ xs) x y (suc a) e = ⊎_elim inl (λ (p : (a ≡ length xs) × (x ≡ y)). inr (ap suc p.0, p.1)) (at_end xs x y a e)

  pub every_at : (P : X → Type 0) (xs : List X) → ((a : ℕ) (x : X) → get_elem? xs a ≡ some x → P x) → AllByRecursion P xs
  every_at P [] h = tt
  every_at P (x ∷ xs) h = (h 0 x refl, every_at P xs (λ a y e. h (suc a) y e))

  pub of_map : {Y : Type 0} (f : X → Y) (xs : List X) (a : ℕ) (y : Y) → get_elem? (map f xs) a ≡ some y → (x : X) × (get_elem? xs a ≡ some x) × (f x ≡ y)
  of_map f [] a y e = absurd (some-ne-none y (sym e))
  of_map f (x ∷ xs) zero y e = (x, refl, some-injective (f x) y e)
  of_map f (x ∷ xs) (suc a) y e = of_map f xs a y e

module _ {E : Type 0} where
  pub known_set : (views : List (SeatView E)) (id i a : ℕ) (w : SeatView E) (t : Knowledge E) → KnownAt (set views id w) i a t → ((i ≡ id) × (get_elem? w.known a ≡ some t)) ⊎ ((i ≢ id) × KnownAt views i a t)
  known_set views id i a w t p = ⊎_elim (λ (q : (i ≡ id) × (w ≡ p.0)). inl (q.0, subst (λ (v : SeatView E). get_elem? v.known a ≡ some t) (sym q.1) p.2))
      (λ (q : (i ≢ id) × (get_elem? views i ≡ some p.0)). inr (q.0, (p.0, q.1, p.2))) (at_set views id i w p.0 p.1)

  pub known_end : (views : List (SeatView E)) (i a : ℕ) (w : SeatView E) (t : Knowledge E) → KnownAt (views ++ w ∷ []) i a t → KnownAt views i a t ⊎ ((i ≡ length views) × (get_elem? w.known a ≡ some t))
  known_end views i a w t p = ⊎_elim (λ (q : get_elem? views i ≡ some p.0). inl (p.0, q, p.2))
      (λ (q : (i ≡ length views) × (w ≡ p.0)). inr (q.0, subst (λ (v : SeatView E). get_elem? v.known a ≡ some t) (sym q.1) p.2)) (at_end views w p.0 i p.1)

  abbrev pub AllApart : List (SeatView E) → Type 0
  AllApart views = (i a j b : ℕ) (t u : Knowledge E) → KnownAt views i a t → KnownAt views j b u → (i ≢ j) ⊎ (a ≢ b) → IsApartFrom t u

  -- a token of the new views comes from one of the old views, with the same name, and has made at least as many seats
  abbrev pub ComesFrom : List (SeatView E) → (ℕ → ℕ → ℕ → ℕ → Type 0) → ℕ → ℕ → Knowledge E → Type 0
  ComesFrom views Old i a t = (p : ℕ) × (q : ℕ) × (u : Knowledge E) × KnownAt views p q u × (u.name ≡ t.name) × (u.made ≤ t.made) × Old i a p q

  apart_like : (t u t' u' : Knowledge E) → t.name ≡ t'.name → t.made ≤ t'.made → u.name ≡ u'.name → IsApartFrom t u → IsApartFrom t' u'
  apart_like t u t' u' n m o a =
      let b : (t'.name ≢ u'.name) × IsMadeBy t'.name t.made u'.name = subst (λ (z : List ℕ × List ℕ). (z.0 ≢ z.1) × IsMadeBy z.0 t.made z.1) (λ i. (n i, o i)) a in
      (b.0, numbered_more t'.name t.made t'.made u'.name m b.1)

  pub apart_from : (views views' : List (SeatView E)) (Old : ℕ → ℕ → ℕ → ℕ → Type 0) → ((i a j b p q : ℕ) → Old i a p q → Old j b p q → (i ≡ j) × (a ≡ b))
      → ((i a : ℕ) (t : Knowledge E) → KnownAt views' i a t → ComesFrom views Old i a t) → AllApart views → AllApart views'
  apart_from views views' Old once from all i a j b t u x y ne =
      let f = from i a t x in let g = from j b u y in
      let away : (f.0 ≢ g.0) ⊎ (f.1 ≢ g.1) = dite (ℕ_discrete f.0 g.0) (λ e. dite (ℕ_discrete f.1 g.1)
      (λ e'. let same = once i a j b g.0 g.1 (subst (λ (z : ℕ × ℕ). Old i a z.0 z.1) (λ k. (e k, e' k)) f.6) g.6 in ⊎_elim (λ n. absurd (n same.0)) (λ n. absurd (n same.1)) ne)
      (λ n. inr n)) (λ n. inl n) in
      apart_like f.2 g.2 t u f.4 f.5 g.4 (all f.0 f.1 g.0 g.1 f.2 g.2 f.3 g.3 away)
