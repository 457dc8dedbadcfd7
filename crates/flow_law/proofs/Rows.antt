-- Subscribers in a list, and lists of numbers that rise.
use Rattle.std.proofs.Common.{◌≡◌, ℕ, ◌+◌, ◌-◌, ◌≤◌, ◌<◌, Bool, true, false, not, ◌==◌, ◌||◌, cond, List, [], ◌∷◌, ◌++◌, map, Some, None, refl, sym, ap, ◌∙◌, subst, arith}
use Rattle.std.specs.Prelude.{filter, nat_le}
use Rattle.std.specs.List.{AllByRecursion, list_any}
use Rattle.std.proofs.lemmas.Bool.{cond_both, or_parts, cond-true, cond-false, leb-false}
use Rattle.std.proofs.lemmas.Bool.Decides.{Decides-eqb, nat_tests}
use Rattle.flow_law.specs.flow.SharedFlow.{Numbered, Subscriber, position_of, stand_at, move_to, without, own_of, leave_own, with_own}
use Rattle.flow_law.specs.laws.Laws.{RisesTo}

-- a goal about a test holds if it holds for true and for false
pub split : (b : Bool) (P : Bool → Type 0) → (b ≡ true → P true) → (b ≡ false → P false) → P b
split true P f g = f refl
split false P f g = g refl

module _ {A : Type 0} where
  pub every_weaker : (P Q : A → Type 0) → ((x : A) → P x → Q x) → (xs : List A) → AllByRecursion P xs → AllByRecursion Q xs
  every_weaker P Q f [] h = tt
  every_weaker P Q f (x ∷ xs) h = (f x h.0, every_weaker P Q f xs h.1)

  pub every_snoc : (P : A → Type 0) (xs : List A) (x : A) → AllByRecursion P xs → P x → AllByRecursion P (xs ++ x ∷ [])
  every_snoc P [] x h k = (k, tt)
  every_snoc P (y ∷ ys) x h k = (h.0, every_snoc P ys x h.1 k)

  pub every_filter : (P : A → Type 0) (test : A → Bool) (xs : List A) → AllByRecursion P xs → AllByRecursion P (filter test xs)
  every_filter P test [] h = tt
  every_filter P test (x ∷ xs) h = cond_both (test x) (x ∷ filter test xs) (filter test xs) (AllByRecursion P)
      (λ _. (h.0, every_filter P test xs h.1)) (λ _. every_filter P test xs h.1)

  pub every_map : (P Q : A → Type 0) (f : A → A) → ((x : A) → P x → Q (f x)) → (xs : List A) → AllByRecursion P xs → AllByRecursion Q (map f xs)
  every_map P Q f k [] h = tt
  every_map P Q f k (x ∷ xs) h = (k x h.0, every_map P Q f k xs h.1)

pub every_move : {T : Type 0} (P : Subscriber T → Type 0) (number p : ℕ) → ((u : Subscriber T) → P u → P (stand_at p u)) → (us : List (Subscriber T)) → AllByRecursion P us → AllByRecursion P (move_to number p us)
every_move P number p k [] h = tt
every_move P number p k (u ∷ us) h = cond_both (u.number == number) (stand_at p u ∷ us) (u ∷ move_to number p us) (AllByRecursion P)
    (λ _. (k u h.0, h.1)) (λ _. (h.0, every_move P number p k us h.1))

-- ---- a subscriber's position

pub absent : {T : Type 0} (n number : ℕ) (us : List (Subscriber T)) → AllByRecursion (λ u. u.number ≤ n) us → n < number → position_of number us ≡ None
absent n number [] h l = refl
absent n number (u ∷ us) h l = cond_both (u.number == number) (Some u.position) (position_of number us) (λ o. o ≡ None)
    (λ e. absurd (omega (arith, h.0, l, (Decides-eqb u.number number).0 e))) (λ _. absent n number us h.1 l)

pub position_holds : {T : Type 0} (P : Subscriber T → Type 0) (number p : ℕ) (us : List (Subscriber T)) → AllByRecursion P us → position_of number us ≡ Some p → (u : Subscriber T) × (u.number ≡ number) × (u.position ≡ p) × P u
position_holds {T} P number p [] h e = absurd (cc)
position_holds {T} P number p (u ∷ us) h e = cond_both (u.number == number) (Some u.position) (position_of number us)
    (λ o. o ≡ Some p → (u : Subscriber T) × (u.number ≡ number) × (u.position ≡ p) × P u)
    (λ t e. (u, (Decides-eqb u.number number).0 t, same e, h.0)) (λ _ e. position_holds P number p us h.1 e) e
  where
    same : Some u.position ≡ Some p → u.position ≡ p
    same e = cc

pub position-snoc : {T : Type 0} (number : ℕ) (us : List (Subscriber T)) (v : Subscriber T) → position_of number us ≡ None → v.number ≡ number → position_of number (us ++ v ∷ []) ≡ Some v.position
position-snoc number [] v h e = cond_both (v.number == number) (Some v.position) None (λ o. o ≡ Some v.position) (λ _. refl)
    (λ f. absurd (grind (arith, nat_tests, e, f)))
position-snoc number (u ∷ us) v h e = cond_both (u.number == number) (Some u.position) (position_of number us)
    (λ o. o ≡ None → cond (u.number == number) (Some u.position) (position_of number (us ++ v ∷ [])) ≡ Some v.position)
    (λ t h. absurd (cc))
    (λ f h. cond-false (u.number == number) (Some u.position) (position_of number (us ++ v ∷ [])) f ∙ position-snoc number us v h e) h

pub position-snoc_other : {T : Type 0} (number : ℕ) (us : List (Subscriber T)) (v : Subscriber T) → (v.number == number) ≡ false → position_of number (us ++ v ∷ []) ≡ position_of number us
position-snoc_other number [] v f = cond-false (v.number == number) (Some v.position) None f
position-snoc_other number (u ∷ us) v f = ap (λ o. cond (u.number == number) (Some u.position) o) (position-snoc_other number us v f)

pub position-move_to : {T : Type 0} (number p q : ℕ) (us : List (Subscriber T)) → position_of number us ≡ Some p → position_of number (move_to number q us) ≡ Some q
position-move_to number p q [] e = absurd (cc)
position-move_to number p q (u ∷ us) e = split (u.number == number) (λ t. cond t (Some u.position) (position_of number us) ≡ Some p
    → position_of number (cond t (stand_at q u ∷ us) (u ∷ move_to number q us)) ≡ Some q)
    (λ t e. cond-true (u.number == number) (Some q) (position_of number us) t)
    (λ t e. cond-false (u.number == number) (Some u.position) (position_of number (move_to number q us)) t ∙ position-move_to number p q us e) e

pub position-move_to_other : {T : Type 0} (number other q : ℕ) (us : List (Subscriber T)) → (other == number) ≡ false → position_of number (move_to other q us) ≡ position_of number us
position-move_to_other number other q [] f = refl
position-move_to_other number other q (u ∷ us) f = cond_both (u.number == other) (stand_at q u ∷ us) (u ∷ move_to other q us) (λ vs. position_of number vs ≡ position_of number (u ∷ us))
    (λ t. let not_it : (u.number == number) ≡ false = subst (λ n. (n == number) ≡ false) (sym ((Decides-eqb u.number other).0 t)) f in
    cond-false (u.number == number) (Some q) (position_of number us) not_it ∙ sym (cond-false (u.number == number) (Some u.position) (position_of number us) not_it))
    (λ _. ap (λ o. cond (u.number == number) (Some u.position) o) (position-move_to_other number other q us f))

pub position-without : {T : Type 0} (number : ℕ) (us : List (Subscriber T)) → position_of number (without number us) ≡ None
position-without number [] = refl
position-without number (u ∷ us) = split (u.number == number) (λ t. position_of number (cond (not t) (u ∷ without number us) (without number us)) ≡ None)
    (λ t. position-without number us)
    (λ t. cond-false (u.number == number) (Some u.position) (position_of number (without number us)) t ∙ position-without number us)

pub position-without_other : {T : Type 0} (number other : ℕ) (us : List (Subscriber T)) → (other == number) ≡ false → position_of number (without other us) ≡ position_of number us
position-without_other number other [] f = refl
position-without_other number other (u ∷ us) f = split (u.number == other)
    (λ t. position_of number (cond (not t) (u ∷ without other us) (without other us)) ≡ position_of number (u ∷ us))
    (λ t. position-without_other number other us f
    ∙ sym (cond-false (u.number == number) (Some u.position) (position_of number us) (subst (λ n. (n == number) ≡ false) (sym ((Decides-eqb u.number other).0 t)) f)))
    (λ t. ap (λ o. cond (u.number == number) (Some u.position) o) (position-without_other number other us f))

-- each position is what f makes of it
pub position-map : {T : Type 0} (f : ℕ → ℕ) (number q : ℕ) (us : List (Subscriber T)) → position_of number (map (λ u. stand_at (f u.position) u) us) ≡ Some q → (p : ℕ) × (position_of number us ≡ Some p) × (f p ≡ q)
position-map f number q [] e = absurd (cc)
position-map f number q (u ∷ us) e = split (u.number == number)
    (λ t. cond t (Some (f u.position)) (position_of number (map (λ u. stand_at (f u.position) u) us)) ≡ Some q
    → (p : ℕ) × (cond t (Some u.position) (position_of number us) ≡ Some p) × (f p ≡ q))
    (λ _ e. (u.position, refl, some_same (f u.position) q e))
    (λ _ e. position-map f number q us e) e
  where
    some_same : (a b : ℕ) → Some a ≡ Some b → a ≡ b
    some_same a b e = cc

-- if no subscriber has a lag of at least w, this one's lag is less
pub lag_below : {T : Type 0} (w n number p : ℕ) (us : List (Subscriber T)) → list_any (λ u. nat_le w (n - u.position)) us ≡ false → position_of number us ≡ Some p → n - p < w
lag_below w n number p [] h e = absurd (cc)
lag_below w n number p (u ∷ us) h e =
    let parts : (nat_le w (n - u.position) ≡ false) × (list_any (λ u. nat_le w (n - u.position)) us ≡ false) = or_parts _ _ h in
    let here : n - u.position < w = leb-false w (n - u.position) parts.0 in
    cond_both (u.number == number) (Some u.position) (position_of number us) (λ o. o ≡ Some p → n - p < w)
    (λ t e. subst (λ q. n - q < w) (some_same u.position p e) here)
    (λ t e. lag_below w n number p us parts.1 e) e
  where
    some_same : (a b : ℕ) → Some a ≡ Some b → a ≡ b
    some_same a b e = cc

-- ---- what is left of a subscriber's own first values

module _ {T : Type 0} where
  pub every_with_own : (P : Subscriber T → Type 0) (number : ℕ) (own : List T) → ((u : Subscriber T) → P u → P (leave_own own u)) → (us : List (Subscriber T)) → AllByRecursion P us → AllByRecursion P (with_own number own us)
  every_with_own P number own k [] h = tt
  every_with_own P number own k (u ∷ us) h = cond_both (u.number == number) (leave_own own u ∷ us) (u ∷ with_own number own us) (AllByRecursion P)
      (λ _. (k u h.0, h.1)) (λ _. (h.0, every_with_own P number own k us h.1))

  -- what does not look at own values does not see that one was taken
  pub any-with_own : (test : Subscriber T → Bool) (number : ℕ) (own : List T) → ((u : Subscriber T) → test (leave_own own u) ≡ test u) → (us : List (Subscriber T)) → list_any test (with_own number own us) ≡ list_any test us
  any-with_own test number own k [] = refl
  any-with_own test number own k (u ∷ us) = cond_both (u.number == number) (leave_own own u ∷ us) (u ∷ with_own number own us) (λ vs. list_any test vs ≡ list_any test (u ∷ us))
      (λ _. ap (λ b. b || list_any test us) (k u)) (λ _. ap (λ b. test u || b) (any-with_own test number own k us))

  pub position-with_own : (number other : ℕ) (own : List T) (us : List (Subscriber T)) → position_of number (with_own other own us) ≡ position_of number us
  position-with_own number other own [] = refl
  position-with_own number other own (u ∷ us) = cond_both (u.number == other) (leave_own own u ∷ us) (u ∷ with_own other own us) (λ vs. position_of number vs ≡ position_of number (u ∷ us))
      (λ _. refl) (λ _. ap (λ o. cond (u.number == number) (Some u.position) o) (position-with_own number other own us))

  pub own-with_own : (number p : ℕ) (own : List T) (us : List (Subscriber T)) → position_of number us ≡ Some p → own_of number (with_own number own us) ≡ own
  own-with_own number p own [] e = absurd (cc)
  own-with_own number p own (u ∷ us) e = split (u.number == number) (λ t. cond t (Some u.position) (position_of number us) ≡ Some p
      → own_of number (cond t (leave_own own u ∷ us) (u ∷ with_own number own us)) ≡ own)
      (λ t e. cond-true (u.number == number) own (own_of number us) t)
      (λ t e. cond-false (u.number == number) u.own (own_of number (with_own number own us)) t ∙ own-with_own number p own us e) e

  pub own-with_own_other : (number other : ℕ) (own : List T) (us : List (Subscriber T)) → (other == number) ≡ false → own_of number (with_own other own us) ≡ own_of number us
  own-with_own_other number other own [] f = refl
  own-with_own_other number other own (u ∷ us) f = cond_both (u.number == other) (leave_own own u ∷ us) (u ∷ with_own other own us) (λ vs. own_of number vs ≡ own_of number (u ∷ us))
      (λ t. let not_it : (u.number == number) ≡ false = subst (λ n. (n == number) ≡ false) (sym ((Decides-eqb u.number other).0 t)) f in
      cond-false (u.number == number) own (own_of number us) not_it ∙ sym (cond-false (u.number == number) u.own (own_of number us) not_it))
      (λ _. ap (λ o. cond (u.number == number) u.own o) (own-with_own_other number other own us f))

  -- another place leaves them as they are
  pub own-move_to : (number other q : ℕ) (us : List (Subscriber T)) → own_of number (move_to other q us) ≡ own_of number us
  own-move_to number other q [] = refl
  own-move_to number other q (u ∷ us) = cond_both (u.number == other) (stand_at q u ∷ us) (u ∷ move_to other q us) (λ vs. own_of number vs ≡ own_of number (u ∷ us))
      (λ _. refl) (λ _. ap (λ o. cond (u.number == number) u.own o) (own-move_to number other q us))

  pub own-map : (f : ℕ → ℕ) (number : ℕ) (us : List (Subscriber T)) → own_of number (map (λ u. stand_at (f u.position) u) us) ≡ own_of number us
  own-map f number [] = refl
  own-map f number (u ∷ us) = ap (λ o. cond (u.number == number) u.own o) (own-map f number us)

  pub own-snoc : (number : ℕ) (us : List (Subscriber T)) (v : Subscriber T) → position_of number us ≡ None → v.number ≡ number → own_of number (us ++ v ∷ []) ≡ v.own
  own-snoc number [] v h e = cond_both (v.number == number) v.own [] (λ o. o ≡ v.own) (λ _. refl)
      (λ f. absurd (grind (arith, nat_tests, e, f)))
  own-snoc number (u ∷ us) v h e = cond_both (u.number == number) (Some u.position) (position_of number us)
      (λ o. o ≡ None → cond (u.number == number) u.own (own_of number (us ++ v ∷ [])) ≡ v.own)
      (λ t h. absurd (cc))
      (λ f h. cond-false (u.number == number) u.own (own_of number (us ++ v ∷ [])) f ∙ own-snoc number us v h e) h

  pub own-snoc_other : (number : ℕ) (us : List (Subscriber T)) (v : Subscriber T) → (v.number == number) ≡ false → own_of number (us ++ v ∷ []) ≡ own_of number us
  own-snoc_other number [] v f = cond-false (v.number == number) v.own [] f
  own-snoc_other number (u ∷ us) v f = ap (λ o. cond (u.number == number) u.own o) (own-snoc_other number us v f)

  pub own-without_other : (number other : ℕ) (us : List (Subscriber T)) → (other == number) ≡ false → own_of number (without other us) ≡ own_of number us
  own-without_other number other [] f = refl
  own-without_other number other (u ∷ us) f = split (u.number == other)
      (λ t. own_of number (cond (not t) (u ∷ without other us) (without other us)) ≡ own_of number (u ∷ us))
      (λ t. own-without_other number other us f
      ∙ sym (cond-false (u.number == number) u.own (own_of number us) (subst (λ n. (n == number) ≡ false) (sym ((Decides-eqb u.number other).0 t)) f)))
      (λ t. ap (λ o. cond (u.number == number) u.own o) (own-without_other number other us f))

-- ---- numbers that rise

pub rises_below : (b top : ℕ) (ns : List ℕ) → RisesTo b ns top → b ≤ top
rises_below b top [] h = h
rises_below b top (n ∷ ns) h = omega (arith, h.0, rises_below n top ns h.1)

pub rises_from : (a b top : ℕ) (ns : List ℕ) → a ≤ b → RisesTo b ns top → RisesTo a ns top
rises_from a b top [] l h = omega arith
rises_from a b top (n ∷ ns) l h = (omega (arith, h.0), h.1)

pub rises_more : (b top : ℕ) (ns : List ℕ) → RisesTo b ns top → RisesTo b (ns ++ (top + 1) ∷ []) (top + 1)
rises_more b top [] h = (omega arith, omega arith)
rises_more b top (n ∷ ns) h = (h.0, rises_more n top ns h.1)

pub rises_higher : (b top more : ℕ) (ns : List ℕ) → top ≤ more → RisesTo b ns top → RisesTo b ns more
rises_higher b top more [] l h = omega arith
rises_higher b top more (n ∷ ns) l h = (h.0, rises_higher n top more ns l h.1)

module _ {T : Type 0} where
  pub rises_filter : (test : Numbered T → Bool) (b top : ℕ) (emitted q : List (Numbered T)) → RisesTo b (map (λ e. e.number) (emitted ++ q)) top → RisesTo b (map (λ e. e.number) (emitted ++ filter test q)) top
  rises_filter test b top [] [] h = h
  rises_filter test b top [] (e ∷ q) h = cond_both (test e) (e ∷ filter test q) (filter test q) (λ es. RisesTo b (map (λ e. e.number) es) top)
      (λ _. (h.0, rises_filter test e.number top [] q h.1))
      (λ _. rises_filter test b top [] q (rises_from b e.number top (map (λ e. e.number) q) (omega (arith, h.0)) h.1))
  rises_filter test b top (x ∷ emitted) q h = (h.0, rises_filter test x.number top emitted q h.1)
