-- The tokens among the views of a table's seats after one view changes, after two tokens meet in one view and part, and after a
-- token is made through another. Begin with `changed`.
use Rattle.std.proofs.Common.{◌≡◌, ◌≢◌, ℕ, zero, suc, ◌≤◌, ◌⊎◌, List, [], ◌∷◌, ◌++◌, map, length, set, refl, sym, ap, ◌∙◌, subst, inl, inr, ⊎_elim, arith, le_refl}
use mathlib.Core.Option.{some, some-injective, some-ne-none}
use mathlib.Core.Logic.{dite}
use native.Mathlib.Decide.{ℕ_discrete}
use lib.ListN.{get_elem?}
use Rattle.flow_law.specs.declared.history.Knowledge.{Knowledge}
use Rattle.flow_law.specs.history.Growth.{IsMadeBy, IsApartFrom, makes, child}
use Rattle.flow_law.specs.history.Seats.{SeatAt, AllApart, SeatsFit}
use Rattle.flow_law.proofs.Names.{numbered_more, child_apart, apart_child, makes_child, child_makes}

-- ---- places in a list

module _ {X : Type 0} where
  at_set : (xs : List X) (i j : ℕ) (x y : X) → get_elem? (set xs i x) j ≡ some y → ((j ≡ i) × (x ≡ y)) ⊎ ((j ≢ i) × (get_elem? xs j ≡ some y))
  at_set [] i j x y e = absurd (some-ne-none y (sym e))
  at_set (z ∷ zs) zero zero x y e = inl (refl, some-injective x y e)
  at_set (z ∷ zs) zero (suc j) x y e = inr ((λ h. omega arith), e)
  at_set (z ∷ zs) (suc i) zero x y e = inr ((λ h. omega arith), e)
  at_set (z ∷ zs) (suc i) (suc j) x y e = ⊎_elim (λ t. inl (ap suc t.0, t.1)) (λ t. let n = t.0 in inr ((λ h. n (omega arith)), t.1)) (at_set zs i j x y e)

  set_else : (xs : List X) (i j : ℕ) (x : X) → j ≢ i → get_elem? (set xs i x) j ≡ get_elem? xs j
  set_else [] i j x n = refl
  set_else (z ∷ zs) zero zero x n = absurd (n refl)
  set_else (z ∷ zs) zero (suc j) x n = refl
  set_else (z ∷ zs) (suc i) zero x n = refl
  set_else (z ∷ zs) (suc i) (suc j) x n = set_else zs i j x (λ e. n (ap suc e))

  pub at_only : (x y : X) (a : ℕ) → get_elem? (x ∷ []) a ≡ some y → (a ≡ 0) × (x ≡ y)
  at_only x y zero e = (refl, some-injective x y e)
  at_only x y (suc a) e = absurd (some-ne-none y (sym e))

  at_two : (x y z : X) (a : ℕ) → get_elem? (x ∷ y ∷ []) a ≡ some z → ((a ≡ 0) × (x ≡ z)) ⊎ ((a ≡ 1) × (y ≡ z))
  at_two x y z zero e = inl (refl, some-injective x z e)
  at_two x y z (suc zero) e = inr (refl, some-injective y z e)
  at_two x y z (suc (suc a)) e = absurd (some-ne-none z (sym e))

  pub at_none : (y : X) (a : ℕ) → get_elem? [] a ≡ some y → ⊥
  at_none y a e = some-ne-none y (sym e)

  -- the last, or one before
  pub at_end : (xs : List X) (x y : X) (a : ℕ) → get_elem? (xs ++ x ∷ []) a ≡ some y → (get_elem? xs a ≡ some y) ⊎ ((a ≡ length xs) × (x ≡ y))
  at_end [] x y a e = inr (at_only x y a e)
  at_end (z ∷ xs) x y zero e = inl e
  at_end (z ∷ xs) x y (suc a) e = ⊎_elim inl (λ (p : (a ≡ length xs) × (x ≡ y)). inr (ap suc p.0, p.1)) (at_end xs x y a e)

  pub of_map : {Y : Type 0} (f : X → Y) (xs : List X) (a : ℕ) (y : Y) → get_elem? (map f xs) a ≡ some y → (x : X) × (get_elem? xs a ≡ some x) × (f x ≡ y)
  of_map f [] a y e = absurd (some-ne-none y (sym e))
  of_map f (x ∷ xs) zero y e = (x, refl, some-injective (f x) y e)
  of_map f (x ∷ xs) (suc a) y e = of_map f xs a y e

-- ---- where a token was before

-- where a token was before two views became one
abbrev pub Joined : ℕ → ℕ → ℕ → ℕ → ℕ → ℕ → Type 0
Joined id other i a p q = ((i ≡ id) × (a ≡ 0) × (p ≡ id) × (q ≡ 0)) ⊎ (((i ≡ id) × (a ≡ 1) × (p ≡ other) × (q ≡ 0)) ⊎ ((i ≢ id) × (i ≢ other) × (p ≡ i) × (q ≡ a)))

pub joined_once : (id other : ℕ) → other ≢ id → (i a j b p q : ℕ) → Joined id other i a p q → Joined id other j b p q → (i ≡ j) × (a ≡ b)
joined_once id other ne i a j b p q x y = ⊎_elim
    (λ (u : (i ≡ id) × (a ≡ 0) × (p ≡ id) × (q ≡ 0)). ⊎_elim
    (λ (v : (j ≡ id) × (b ≡ 0) × (p ≡ id) × (q ≡ 0)). (omega arith, omega arith))
    (λ w. ⊎_elim (λ (v : (j ≡ id) × (b ≡ 1) × (p ≡ other) × (q ≡ 0)). absurd (ne (omega arith))) (λ (v : (j ≢ id) × (j ≢ other) × (p ≡ j) × (q ≡ b)). absurd (v.0 (omega arith))) w) y)
    (λ z. ⊎_elim
    (λ (u : (i ≡ id) × (a ≡ 1) × (p ≡ other) × (q ≡ 0)). ⊎_elim
    (λ (v : (j ≡ id) × (b ≡ 0) × (p ≡ id) × (q ≡ 0)). absurd (ne (omega arith)))
    (λ w. ⊎_elim (λ (v : (j ≡ id) × (b ≡ 1) × (p ≡ other) × (q ≡ 0)). (omega arith, omega arith)) (λ (v : (j ≢ id) × (j ≢ other) × (p ≡ j) × (q ≡ b)). absurd (v.1 (omega arith))) w) y)
    (λ (u : (i ≢ id) × (i ≢ other) × (p ≡ i) × (q ≡ a)). ⊎_elim
    (λ (v : (j ≡ id) × (b ≡ 0) × (p ≡ id) × (q ≡ 0)). absurd (u.0 (omega arith)))
    (λ w. ⊎_elim (λ (v : (j ≡ id) × (b ≡ 1) × (p ≡ other) × (q ≡ 0)). absurd (u.1 (omega arith))) (λ (v : (j ≢ id) × (j ≢ other) × (p ≡ j) × (q ≡ b)). (omega arith, omega arith)) w) y) z) x

-- where a token was before its view was cut in two; the new view is the n-th
abbrev pub Parted : ℕ → ℕ → ℕ → ℕ → ℕ → ℕ → Type 0
Parted id n i a p q = ((i ≡ n) × (a ≡ 0) × (p ≡ id) × (q ≡ 1)) ⊎ (((i ≡ id) × (a ≡ 0) × (p ≡ id) × (q ≡ 0)) ⊎ ((i ≢ id) × (p ≡ i) × (q ≡ a)))

pub parted_once : (id n : ℕ) → (i a j b p q : ℕ) → Parted id n i a p q → Parted id n j b p q → (i ≡ j) × (a ≡ b)
parted_once id n i a j b p q x y = ⊎_elim
    (λ (u : (i ≡ n) × (a ≡ 0) × (p ≡ id) × (q ≡ 1)). ⊎_elim
    (λ (v : (j ≡ n) × (b ≡ 0) × (p ≡ id) × (q ≡ 1)). (omega arith, omega arith))
    (λ w. ⊎_elim (λ (v : (j ≡ id) × (b ≡ 0) × (p ≡ id) × (q ≡ 0)). absurd (omega arith)) (λ (v : (j ≢ id) × (p ≡ j) × (q ≡ b)). absurd (v.0 (omega arith))) w) y)
    (λ z. ⊎_elim
    (λ (u : (i ≡ id) × (a ≡ 0) × (p ≡ id) × (q ≡ 0)). ⊎_elim
    (λ (v : (j ≡ n) × (b ≡ 0) × (p ≡ id) × (q ≡ 1)). absurd (omega arith))
    (λ w. ⊎_elim (λ (v : (j ≡ id) × (b ≡ 0) × (p ≡ id) × (q ≡ 0)). (omega arith, omega arith)) (λ (v : (j ≢ id) × (p ≡ j) × (q ≡ b)). absurd (v.0 (omega arith))) w) y)
    (λ (u : (i ≢ id) × (p ≡ i) × (q ≡ a)). ⊎_elim
    (λ (v : (j ≡ n) × (b ≡ 0) × (p ≡ id) × (q ≡ 1)). absurd (u.0 (omega arith)))
    (λ w. ⊎_elim (λ (v : (j ≡ id) × (b ≡ 0) × (p ≡ id) × (q ≡ 0)). absurd (u.0 (omega arith))) (λ (v : (j ≢ id) × (p ≡ j) × (q ≡ b)). (omega arith, omega arith)) w) y) z) x

module _ {V X E : Type 0} (seats : V → List X) (knows : X → Knowledge E) where
  abbrev At : List V → ℕ → ℕ → X → Type 0
  At = SeatAt seats

  abbrev Apart : List V → Type 0
  Apart = AllApart seats knows

  abbrev Fit : (X → Type 0) → List V → Type 0
  Fit = SeatsFit seats knows

  pub seat_set : (views : List V) (id i a : ℕ) (w : V) (x : X) → At (set views id w) i a x → ((i ≡ id) × (get_elem? (seats w) a ≡ some x)) ⊎ ((i ≢ id) × At views i a x)
  seat_set views id i a w x p = ⊎_elim (λ (q : (i ≡ id) × (w ≡ p.0)). inl (q.0, subst (λ (v : V). get_elem? (seats v) a ≡ some x) (sym q.1) p.2))
      (λ (q : (i ≢ id) × (get_elem? views i ≡ some p.0)). inr (q.0, (p.0, q.1, p.2))) (at_set views id i w p.0 p.1)

  pub seat_end : (views : List V) (i a : ℕ) (w : V) (x : X) → At (views ++ w ∷ []) i a x → At views i a x ⊎ ((i ≡ length views) × (get_elem? (seats w) a ≡ some x))
  seat_end views i a w x p = ⊎_elim (λ (q : get_elem? views i ≡ some p.0). inl (p.0, q, p.2))
      (λ (q : (i ≡ length views) × (w ≡ p.0)). inr (q.0, subst (λ (v : V). get_elem? (seats v) a ≡ some x) (sym q.1) p.2)) (at_end views w p.0 i p.1)

  -- a token of the new views was one of the old views, with the same name, and has made no fewer seats
  abbrev ComesFrom : List V → (ℕ → ℕ → ℕ → ℕ → Type 0) → ℕ → ℕ → X → Type 0
  ComesFrom views Old i a x = (p : ℕ) × (q : ℕ) × (y : X) × At views p q y × ((knows y).name ≡ (knows x).name) × ((knows y).made ≤ (knows x).made) × Old i a p q

  apart_like : (t u t' u' : Knowledge E) → t.name ≡ t'.name → t.made ≤ t'.made → u.name ≡ u'.name → IsApartFrom t u → IsApartFrom t' u'
  apart_like t u t' u' n m o a =
      let b : (t'.name ≢ u'.name) × IsMadeBy t'.name t.made u'.name = subst (λ (z : List ℕ × List ℕ). (z.0 ≢ z.1) × IsMadeBy z.0 t.made z.1) (λ i. (n i, o i)) a in
      (b.0, numbered_more t'.name t.made t'.made u'.name m b.1)

  apart_from : (views views' : List V) (Old : ℕ → ℕ → ℕ → ℕ → Type 0) → ((i a j b p q : ℕ) → Old i a p q → Old j b p q → (i ≡ j) × (a ≡ b))
      → ((i a : ℕ) (x : X) → At views' i a x → ComesFrom views Old i a x) → Apart views → Apart views'
  apart_from views views' Old once from all i a j b t u x y ne =
      let f = from i a t x in let g = from j b u y in
      let away : (f.0 ≢ g.0) ⊎ (f.1 ≢ g.1) = dite (ℕ_discrete f.0 g.0) (λ e. dite (ℕ_discrete f.1 g.1)
      (λ e'. let same = once i a j b g.0 g.1 (subst (λ (z : ℕ × ℕ). Old i a z.0 z.1) (λ k. (e k, e' k)) f.6) g.6 in ⊎_elim (λ n. absurd (n same.0)) (λ n. absurd (n same.1)) ne)
      (λ n. inr n)) (λ n. inl n) in
      apart_like (knows f.2) (knows g.2) (knows t) (knows u) f.4 f.5 g.4 (all f.0 f.1 g.0 g.1 f.2 g.2 f.3 g.3 away)

  -- the tokens stay apart if those of one view change, keep their names, and have made no fewer seats
  pub changed_apart : (f : X → X) → ((x : X) → (knows x).name ≡ (knows (f x)).name) → ((x : X) → (knows x).made ≤ (knows (f x)).made) → (views : List V) (id : ℕ) (v w : V)
      → get_elem? views id ≡ some v → seats w ≡ map f (seats v) → Apart views → Apart (set views id w)
  changed_apart f name made views id v w at is all = apart_from views (set views id w) (λ i a p q. (i ≡ p) × (a ≡ q)) (λ i a j b' p q x y. (x.0 ∙ sym y.0, x.1 ∙ sym y.1))
      (λ i a t x. ⊎_elim
      (λ (h : (i ≡ id) × (get_elem? (seats w) a ≡ some t)). let u = of_map f (seats v) a t (ap (λ (l : List X). get_elem? l a) (sym is) ∙ h.1) in
      (i, a, u.0, (v, ap (λ n. get_elem? views n) h.0 ∙ at, u.1), name u.0 ∙ ap (λ (z : X). (knows z).name) u.2, subst (λ (z : X). (knows u.0).made ≤ (knows z).made) u.2 (made u.0), (refl, refl)))
      (λ (h : (i ≢ id) × At views i a t). (i, a, t, h.1, refl, le_refl (knows t).made, (refl, refl)))
      (seat_set views id i a w t x)) all

  -- the views still fit if each changed token is as it should be
  pub changed : (IsFine : X → Type 0) (f : X → X) → ((x : X) → (knows x).name ≡ (knows (f x)).name) → ((x : X) → (knows x).made ≤ (knows (f x)).made) → (views : List V) (id : ℕ) (v w : V)
      → get_elem? views id ≡ some v → seats w ≡ map f (seats v) → ((a : ℕ) (x : X) → get_elem? (seats v) a ≡ some x → IsFine (f x)) → ((i a : ℕ) (x : X) → i ≢ id → At views i a x → IsFine x)
      → Apart views → Fit IsFine (set views id w)
  changed IsFine f name made views id v w at is own others all = record {
    fine = λ i a x p. ⊎_elim
        (λ (h : (i ≡ id) × (get_elem? (seats w) a ≡ some x)). let u = of_map f (seats v) a x (ap (λ (l : List X). get_elem? l a) (sym is) ∙ h.1) in subst IsFine u.2 (own a u.0 u.1))
        (λ (h : (i ≢ id) × At views i a x). others i a x h.0 h.1)
        (seat_set views id i a w x p);
    apart = changed_apart f name made views id v w at is all;
  }

  module _ (IsFine : X → Type 0) where
    -- a view of no token more
    pub spent_more : (views : List V) (gone : V) → seats gone ≡ [] → Fit IsFine views → Fit IsFine (views ++ gone ∷ [])
    spent_more views gone none fit = record {
      fine = λ i a x p. let o = old i a x p in fit.fine i a x o;
      apart = λ i a j b x y p q ne. fit.apart i a j b x y (old i a x p) (old j b y q) ne;
    }
      where
        old : (i a : ℕ) (x : X) → At (views ++ gone ∷ []) i a x → At views i a x
        old i a x p = ⊎_elim (λ (h : At views i a x). h)
            (λ (h : (i ≡ length views) × (get_elem? (seats gone) a ≡ some x)). absurd (at_none x a (subst (λ (l : List X). get_elem? l a ≡ some x) none h.1)))
            (seat_end views i a gone x p)

    -- two tokens meet in one view
    pub joined : (views : List V) (id other : ℕ) (v w both gone : V) (t u : X) → seats v ≡ t ∷ [] → seats w ≡ u ∷ [] → seats both ≡ t ∷ u ∷ [] → seats gone ≡ []
        → get_elem? views id ≡ some v → other ≢ id → get_elem? (set views id both) other ≡ some w → Fit IsFine views → Fit IsFine (set (set views id both) other gone)
    joined views id other v w both gone t u is_v is_w is_both is_gone at ne there fit = record {
      fine = λ i a x p. let o = from i a x p in fit.fine o.0 o.1 x o.2;
      apart = apart_from views (set mid other gone) (Joined id other) (joined_once id other ne) (λ i a x p. let o = from i a x p in (o.0, o.1, x, o.2, refl, le_refl (knows x).made, o.3)) fit.apart;
    }
      where
        mid : List V
        mid = set views id both

        t_at : At views id 0 t
        t_at = (v, at, subst (λ (l : List X). get_elem? l 0 ≡ some t) (sym is_v) refl)

        u_at : At views other 0 u
        u_at = (w, sym (set_else views id other both ne) ∙ there, subst (λ (l : List X). get_elem? l 0 ≡ some u) (sym is_w) refl)

        from : (i a : ℕ) (x : X) → At (set mid other gone) i a x → (p : ℕ) × (q : ℕ) × At views p q x × Joined id other i a p q
        from i a x p = ⊎_elim
            (λ (h : (i ≡ other) × (get_elem? (seats gone) a ≡ some x)). absurd (at_none x a (subst (λ (l : List X). get_elem? l a ≡ some x) is_gone h.1)))
            (λ (h : (i ≢ other) × At mid i a x). ⊎_elim
            (λ (k : (i ≡ id) × (get_elem? (seats both) a ≡ some x)). ⊎_elim
            (λ (o : (a ≡ 0) × (t ≡ x)). (id, 0, subst (At views id 0) o.1 t_at, inl (k.0, o.0, refl, refl)))
            (λ (o : (a ≡ 1) × (u ≡ x)). (other, 0, subst (At views other 0) o.1 u_at, inr (inl (k.0, o.0, refl, refl))))
            (at_two t u x a (subst (λ (l : List X). get_elem? l a ≡ some x) is_both k.1)))
            (λ (k : (i ≢ id) × At views i a x). (i, a, k.1, inr (inr (k.0, h.0, refl, refl))))
            (seat_set views id i a both x h.1))
            (seat_set mid other i a gone x p)

    -- they part
    pub parted : (views : List V) (id : ℕ) (v left right : V) (t u : X) → seats v ≡ t ∷ u ∷ [] → seats left ≡ t ∷ [] → seats right ≡ u ∷ [] → get_elem? views id ≡ some v → Fit IsFine views
        → Fit IsFine (set views id left ++ right ∷ [])
    parted views id v left right t u is_v is_left is_right at fit = record {
      fine = λ i a x p. let o = from i a x p in fit.fine o.0 o.1 x o.2;
      apart = apart_from views (mid ++ right ∷ []) (Parted id (length mid)) (parted_once id (length mid)) (λ i a x p. let o = from i a x p in (o.0, o.1, x, o.2, refl, le_refl (knows x).made, o.3)) fit.apart;
    }
      where
        mid : List V
        mid = set views id left

        t_at : At views id 0 t
        t_at = (v, at, subst (λ (l : List X). get_elem? l 0 ≡ some t) (sym is_v) refl)

        u_at : At views id 1 u
        u_at = (v, at, subst (λ (l : List X). get_elem? l 1 ≡ some u) (sym is_v) refl)

        from : (i a : ℕ) (x : X) → At (mid ++ right ∷ []) i a x → (p : ℕ) × (q : ℕ) × At views p q x × Parted id (length mid) i a p q
        from i a x p = ⊎_elim
            (λ (h : At mid i a x). ⊎_elim
            (λ (k : (i ≡ id) × (get_elem? (seats left) a ≡ some x)). let o = at_only t x a (subst (λ (l : List X). get_elem? l a ≡ some x) is_left k.1) in
            (id, 0, subst (At views id 0) o.1 t_at, inr (inl (k.0, o.0, refl, refl))))
            (λ (k : (i ≢ id) × At views i a x). (i, a, k.1, inr (inr (k.0, refl, refl))))
            (seat_set views id i a left x h))
            (λ (h : (i ≡ length mid) × (get_elem? (seats right) a ≡ some x)). let o = at_only u x a (subst (λ (l : List X). get_elem? l a ≡ some x) is_right h.1) in
            (id, 1, subst (At views id 1) o.1 u_at, inl (h.0, o.0, refl, refl)))
            (seat_end mid i a right x p)

    -- a token is made through another
    pub made : (views : List V) (id : ℕ) (v left right : V) (t maker new : X) → seats v ≡ t ∷ [] → seats left ≡ maker ∷ [] → seats right ≡ new ∷ [] → knows maker ≡ makes (knows t) → knows new ≡ child (knows t)
        → IsFine maker → IsFine new → get_elem? views id ≡ some v → Fit IsFine views → Fit IsFine (set views id left ++ right ∷ [])
    made views id v left right t maker new is_v is_left is_right is_maker is_new fine_maker fine_new at fit = record {
      fine = λ i a x p. ⊎_elim (λ (h : At mid i a x). (one i a x h).0) (λ (h : (i ≡ length mid) × (get_elem? (seats right) a ≡ some x)). subst IsFine (last a x h.1).1 fine_new) (seat_end mid i a right x p);
      apart = λ i a j b x y p q ne. ⊎_elim
          (λ (h : At mid i a x). ⊎_elim (λ (k : At mid j b y). mid_apart i a j b x y h k ne)
          (λ (k : (j ≡ length mid) × (get_elem? (seats right) b ≡ some y)). subst (λ (z : X). IsApartFrom (knows x) (knows z)) (last b y k.1).1 (one i a x h).1) (seat_end mid j b right y q))
          (λ (h : (i ≡ length mid) × (get_elem? (seats right) a ≡ some x)). ⊎_elim
          (λ (k : At mid j b y). subst (λ (z : X). IsApartFrom (knows z) (knows y)) (last a x h.1).1 (one j b y k).2)
          (λ (k : (j ≡ length mid) × (get_elem? (seats right) b ≡ some y)). let za = (last a x h.1).0 in let zb = (last b y k.1).0 in ⊎_elim (λ n. absurd (n (h.0 ∙ sym k.0))) (λ n. absurd (n (za ∙ sym zb))) ne)
          (seat_end mid j b right y q))
          (seat_end mid i a right x p);
    }
      where
        mid : List V
        mid = set views id left

        t_at : At views id 0 t
        t_at = (v, at, subst (λ (l : List X). get_elem? l 0 ≡ some t) (sym is_v) refl)

        last : (a : ℕ) (x : X) → get_elem? (seats right) a ≡ some x → (a ≡ 0) × (new ≡ x)
        last a x e = at_only new x a (subst (λ (l : List X). get_elem? l a ≡ some x) is_right e)

        first : (a : ℕ) (x : X) → get_elem? (seats left) a ≡ some x → (a ≡ 0) × (maker ≡ x)
        first a x e = at_only maker x a (subst (λ (l : List X). get_elem? l a ≡ some x) is_left e)

        new_apart : IsApartFrom (knows maker) (knows new) × IsApartFrom (knows new) (knows maker)
        new_apart = subst (λ (z : Knowledge E × Knowledge E). IsApartFrom z.0 z.1 × IsApartFrom z.1 z.0) (λ n. (sym is_maker n, sym is_new n)) (makes_child (knows t), child_makes (knows t))

        -- what is before the new one
        one : (i a : ℕ) (x : X) → At mid i a x → IsFine x × IsApartFrom (knows x) (knows new) × IsApartFrom (knows new) (knows x)
        one i a x p = ⊎_elim
            (λ (k : (i ≡ id) × (get_elem? (seats left) a ≡ some x)). subst (λ (z : X). IsFine z × IsApartFrom (knows z) (knows new) × IsApartFrom (knows new) (knows z)) (first a x k.1).1
            (fine_maker, new_apart.0, new_apart.1))
            (λ (k : (i ≢ id) × At views i a x).
            let tx : IsApartFrom (knows t) (knows x) = fit.apart id 0 i a t x t_at k.1 (inl (λ e. k.0 (sym e))) in let xt : IsApartFrom (knows x) (knows t) = fit.apart i a id 0 x t k.1 t_at (inl k.0) in
            let away = subst (λ (z : Knowledge E). IsApartFrom (knows x) z × IsApartFrom z (knows x)) (sym is_new) (apart_child (knows t) (knows x) tx xt, child_apart (knows t) (knows x) tx) in
            (fit.fine i a x k.1, away.0, away.1))
            (seat_set views id i a left x p)

        mid_apart : Apart mid
        mid_apart = apart_from views mid (λ i a p q. (i ≡ p) × (a ≡ q)) (λ i a j b p q x y. (x.0 ∙ sym y.0, x.1 ∙ sym y.1))
            (λ i a x p. ⊎_elim
            (λ (h : (i ≡ id) × (get_elem? (seats left) a ≡ some x)). let o = first a x h.1 in
            let same : makes (knows t) ≡ knows x = sym is_maker ∙ ap knows o.1 in
            (id, 0, t, t_at, ap (λ (z : Knowledge E). z.name) same, subst (λ (z : Knowledge E). (knows t).made ≤ z.made) same (omega arith), (h.0, o.0)))
            (λ (h : (i ≢ id) × At views i a x). (i, a, x, h.1, refl, le_refl (knows x).made, (refl, refl)))
            (seat_set views id i a left x p)) fit.apart
