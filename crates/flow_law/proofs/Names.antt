-- Lists by `AllByRecursion`, and the names of seats.
use Rattle.std.proofs.Common.{◌≡◌, ◌≢◌, ℕ, ◌+◌, ◌≤◌, ◌⊎◌, List, [], ◌∷◌, ◌++◌, map, length, refl, sym, ap, ◌∙◌, subst, inl, inr, ⊎_elim, arith, append_assoc, append-nil, length-append}
use Rattle.std.proofs.lemmas.List.{append_cancel_left}
use Rattle.std.specs.List.{AllByRecursion}
use Rattle.flow_law.specs.declared.history.HistoryEvent.{HistoryEvent}
use Rattle.flow_law.specs.declared.history.Knowledge.{Knowledge}
use Rattle.flow_law.specs.history.Growth.{IsMadeBy, GrowsByOthers, NamesOnlyMade, Fits, IsApartFrom, event, after_events}
use Rattle.flow_law.specs.history.Growth.{makes, child}

module _ {X : Type 0} where
  pub every_weaker : (P Q : X → Type 0) → ((x : X) → P x → Q x) → (xs : List X) → AllByRecursion P xs → AllByRecursion Q xs
  every_weaker P Q h [] a = tt
  every_weaker P Q h (x ∷ xs) a = (h x a.0, every_weaker P Q h xs a.1)

  pub every_append : (P : X → Type 0) (xs ys : List X) → AllByRecursion P xs → AllByRecursion P ys → AllByRecursion P (xs ++ ys)
  every_append P [] ys a b = b
  every_append P (x ∷ xs) ys a b = (a.0, every_append P xs ys a.1 b)

  pub every_right : (P : X → Type 0) (xs ys : List X) → AllByRecursion P (xs ++ ys) → AllByRecursion P ys
  every_right P [] ys a = a
  every_right P (x ∷ xs) ys a = every_right P xs ys a.1

  pub every_map : {Y : Type 0} (P : Y → Type 0) (f : X → Y) → ((x : X) → P (f x)) → (xs : List X) → AllByRecursion P (map f xs)
  every_map P f h [] = tt
  every_map P f h (x ∷ xs) = (h x, every_map P f h xs)

-- a list does not equal itself with more elements after it
pub longer : (k : List ℕ) (j : ℕ) (r : List ℕ) → k ≡ k ++ j ∷ r → ⊥
longer k j r e = let l : length k ≡ length (k ++ j ∷ r) = ap length e in let m : length (k ++ j ∷ r) ≡ length k + length (j ∷ r) = length-append k (j ∷ r) in omega arith

pub snoc_ne : (k : List ℕ) (j : ℕ) (r : List ℕ) (x : ℕ) → k ≡ (k ++ x ∷ []) ++ j ∷ r → ⊥
snoc_ne k j r x e = longer k x (j ∷ r) (e ∙ append_assoc k (x ∷ []) (j ∷ r))

-- what ends in x and begins with n followed by j is n and x, or one shorter begins so
pub snoc_split : (k n : List ℕ) (x j : ℕ) (r : List ℕ) → k ++ x ∷ [] ≡ n ++ j ∷ r → (k ≡ n) ⊎ ((r' : List ℕ) × (k ≡ n ++ j ∷ r'))
snoc_split [] [] x j r e = inl refl
snoc_split [] (y ∷ n) x j r e = let l : length (x ∷ []) ≡ length ((y ∷ n) ++ j ∷ r) = ap length e in let m = length-append n (j ∷ r) in absurd (omega arith)
snoc_split (z ∷ k) [] x j r e = let h : z ≡ j = cc in inr (k, ap (λ w. w ∷ k) h)
snoc_split (z ∷ k) (y ∷ n) x j r e = let h : z ≡ y = cc in let t : k ++ x ∷ [] ≡ n ++ j ∷ r = cc in
    ⊎_elim (λ (p : k ≡ n). inl (λ i. h i ∷ p i)) (λ (p : (r' : List ℕ) × (k ≡ n ++ j ∷ r')). inr (p.0, λ i. h i ∷ p.1 i)) (snoc_split k n x j r t)

pub numbered_more : (k : List ℕ) (m n : ℕ) (name : List ℕ) → m ≤ n → IsMadeBy k m name → IsMadeBy k n name
numbered_more k m n name le h j r e = let p = h j r e in (p.0, omega arith)

pub numbered_self : (k : List ℕ) (m : ℕ) → IsMadeBy k m k
numbered_self k m j r e = absurd (longer k j r e)

module _ {E : Type 0} where
  pub grew_refl : (k : List ℕ) (h : List (HistoryEvent E)) → GrowsByOthers k h h
  grew_refl k h = ([], sym (append-nil h), tt)

  pub grew_more : (k : List ℕ) (h h' more : List (HistoryEvent E)) → GrowsByOthers k h h' → AllByRecursion (λ e. e.name ≢ k) more → GrowsByOthers k h (h' ++ more)
  grew_more k h h' more g a = (g.0 ++ more, ap (λ l. l ++ more) g.1 ∙ append_assoc h g.0 more, every_append (λ e. e.name ≢ k) g.0 more g.2 a)

  -- a history still fits what a seat knows after another seat adds an event
  pub fits_more : (log : List (HistoryEvent E)) (t : Knowledge E) (e : HistoryEvent E) → e.name ≢ t.name → IsMadeBy t.name t.made e.name → Fits log t → Fits (log ++ e ∷ []) t
  fits_more log t e other num f = (
    grew_more t.name t.seen log (e ∷ []) f.0 (other, tt),
    every_append (λ e. IsMadeBy t.name t.made e.name) log (e ∷ []) f.1 (num, tt),
  )

  -- an event of its own keeps the seat's rule of names
  pub names_own : (log : List (HistoryEvent E)) (name : List ℕ) (made began : ℕ) (what : E) → NamesOnlyMade name made log → NamesOnlyMade name made (log ++ event name began what ∷ [])
  names_own log name made began what all = every_append (λ e. IsMadeBy name made e.name) log (event name began what ∷ []) all (numbered_self name made, tt)

  -- the seat that adds it has seen it
  pub fits_own : (log : List (HistoryEvent E)) (t : Knowledge E) (began : ℕ) (what : E) → Fits log t → NamesOnlyMade t.name t.made (log ++ event t.name began what ∷ [])
  fits_own log t began what f = names_own log t.name t.made began what f.1

  -- the same of several events
  pub fits_more_all : (n : List ℕ) (w : List E) (log : List (HistoryEvent E)) (t : Knowledge E) → n ≢ t.name → IsMadeBy t.name t.made n → Fits log t → Fits (after_events n w log) t
  fits_more_all n [] log t other num f = f
  fits_more_all n (x ∷ xs) log t other num f = fits_more_all n xs (log ++ event n (length log) x ∷ []) t other num (fits_more log t (event n (length log) x) other num f)

  pub names_own_all : (name : List ℕ) (made : ℕ) (w : List E) (log : List (HistoryEvent E)) → NamesOnlyMade name made log → NamesOnlyMade name made (after_events name w log)
  names_own_all name made [] log all = all
  names_own_all name made (x ∷ xs) log all = names_own_all name made xs (log ++ event name (length log) x ∷ []) (names_own log name made (length log) x all)

  module _ (s : Knowledge E) where
    abbrev k : List ℕ
    k = s.name

    abbrev m : ℕ
    m = s.made

    -- a name that the rule of names of s allows is neither the next child's nor below it
    not_child : (n : List ℕ) → IsMadeBy k m n → n ≢ k ++ (m + 1) ∷ []
    not_child n h e = let p = h (m + 1) [] e in omega arith

    below_child : (n : List ℕ) → IsMadeBy k m n → IsMadeBy (k ++ (m + 1) ∷ []) 0 n
    below_child n h j r e = let p = h (m + 1) (j ∷ r) (e ∙ append_assoc k ((m + 1) ∷ []) (j ∷ r)) in absurd (omega arith)

    pub makes_fits : (log : List (HistoryEvent E)) → Fits log s → Fits log (makes s)
    makes_fits log f = (f.0, every_weaker (λ e. IsMadeBy k m e.name) (λ e. IsMadeBy k (m + 1) e.name) (λ e. numbered_more k m (m + 1) e.name (omega arith)) log f.1)

    pub child_fits : (log : List (HistoryEvent E)) → Fits log s → Fits log (child s)
    child_fits log f = let g = f.0 in (
      (
        g.0,
        g.1,
        every_weaker (λ e. IsMadeBy k m e.name) (λ e. e.name ≢ k ++ (m + 1) ∷ []) (λ e. not_child e.name) g.0
            (every_right (λ e. IsMadeBy k m e.name) s.seen g.0 (subst (AllByRecursion (λ e. IsMadeBy k m e.name)) g.1 f.1)),
      ),
      every_weaker (λ e. IsMadeBy k m e.name) (λ e. IsMadeBy (k ++ (m + 1) ∷ []) 0 e.name) (λ e. below_child e.name) log f.1,
    )

    pub child_apart : (t : Knowledge E) → IsApartFrom s t → IsApartFrom (child s) t
    child_apart t a = ((λ e. not_child t.name a.1 (sym e)), below_child t.name a.1)

    pub apart_child : (t : Knowledge E) → IsApartFrom s t → IsApartFrom t s → IsApartFrom t (child s)
    apart_child t a b = (not_child t.name a.1, λ j r e. ⊎_elim (λ (p : k ≡ t.name). absurd (a.0 p)) (λ (p : (r' : List ℕ) × (k ≡ t.name ++ j ∷ r')). b.1 j p.0 p.1) (snoc_split k t.name (m + 1) j r e))

    pub makes_child : IsApartFrom (makes s) (child s)
    makes_child = ((λ e. longer k (m + 1) [] e), λ j r e. let c : (m + 1) ∷ [] ≡ j ∷ r = append_cancel_left k ((m + 1) ∷ []) (j ∷ r) e in let h : m + 1 ≡ j = cc in (omega arith, omega arith))

    pub child_makes : IsApartFrom (child s) (makes s)
    child_makes = ((λ e. longer k (m + 1) [] (sym e)), λ j r e. absurd (snoc_ne k j r (m + 1) e))
