-- How many values callers have still to receive, as a checker of shared flows keeps it.
use Rattle.std.proofs.Common.{◌≡◌, ◌≢◌, ℕ, suc, zero, ◌+◌, ◌<◌, ◌≤◌, List, [], ◌∷◌, length, set, map, Option, Some, None, refl, sym, ap, ◌∙◌, subst, inl, inr, arith}
use Rattle.std.specs.Prelude.{max, min}
use Rattle.std.proofs.lemmas.Bool.Decides.{leb_tells}
use Rattle.std.proofs.lemmas.Option.{same_Some}
use Rattle.flow_check.specs.Subscribed.{kept_of, present}
use Rattle.flow_check.specs.SharedMachine.{most_lag, raised, cleared, own_in, own_left}
use Rattle.flow_check.proofs.Places.{get-set_same, get-set_other}

-- ---- the most

pub lag_upto : (lags : List (Option ℕ)) (i lag : ℕ) → kept_of i lags ≡ Some lag → lag ≤ most_lag lags
lag_upto [] zero lag e = absurd (cc)
lag_upto [] (suc i) lag e = absurd (cc)
lag_upto (None ∷ lags) zero lag e = absurd (cc)
lag_upto (Some l ∷ lags) zero lag e = let is = same_Some l lag e in omega arith
lag_upto (None ∷ lags) (suc i) lag e = lag_upto lags i lag e
lag_upto (Some l ∷ lags) (suc i) lag e = let low = lag_upto lags i lag e in omega arith

pub most_below : (w : ℕ) (lags : List (Option ℕ)) → 0 < w → ((i lag : ℕ) → kept_of i lags ≡ Some lag → lag < w) → most_lag lags < w
most_below w [] some h = some
most_below w (None ∷ lags) some h = most_below w lags some (λ i lag e. h (suc i) lag e)
most_below w (Some l ∷ lags) some h =
    let here = h 0 l refl in
    let rest = most_below w lags some (λ i lag e. h (suc i) lag e) in omega arith

-- some caller has the most to receive
pub most_reached : (lags : List (Option ℕ)) → 0 < most_lag lags → (i : ℕ) × (kept_of i lags ≡ Some (most_lag lags))
most_reached [] some = absurd (omega arith)
most_reached (None ∷ lags) some = let found = most_reached lags some in (suc found.0, found.1)
most_reached (Some l ∷ lags) some = elim (leb_tells (most_lag lags) l) [
  | inl e ↦ let low = e.1 in let is : l ≡ max l (most_lag lags) = omega arith in (0, ap Some is)
  | inr e ↦
      let high = e.1 in
      let more : 0 < most_lag lags = omega arith in
      let found = most_reached lags more in
      let is : most_lag lags ≡ max l (most_lag lags) = omega arith in
      (suc found.0, found.1 ∙ ap Some is)
]

pub most_raised : (w : ℕ) (lags : List (Option ℕ)) → most_lag (map (raised w) lags) ≤ min (most_lag lags + 1) w
most_raised w [] = omega arith
most_raised w (None ∷ lags) = most_raised w lags
most_raised w (Some l ∷ lags) = let rest = most_raised w lags in omega arith

pub most_cleared : (lags : List (Option ℕ)) → most_lag (map cleared lags) ≡ 0
most_cleared [] = refl
most_cleared (None ∷ lags) = most_cleared lags
most_cleared (Some l ∷ lags) = let rest = most_cleared lags in omega arith

pub most-set : (lags : List (Option ℕ)) (i lag : ℕ) → most_lag (set lags i (Some lag)) ≤ max (most_lag lags) lag
most-set [] i lag = omega arith
most-set (None ∷ lags) zero lag = omega arith
most-set (Some l ∷ lags) zero lag = omega arith
most-set (None ∷ lags) (suc i) lag = most-set lags i lag
most-set (Some l ∷ lags) (suc i) lag = let rest = most-set lags i lag in omega arith

pub most-set_none : (lags : List (Option ℕ)) (i : ℕ) → most_lag (set lags i None) ≤ most_lag lags
most-set_none [] i = omega arith
most-set_none (None ∷ lags) zero = omega arith
most-set_none (Some l ∷ lags) zero = omega arith
most-set_none (None ∷ lags) (suc i) = most-set_none lags i
most-set_none (Some l ∷ lags) (suc i) = let rest = most-set_none lags i in omega arith

-- no caller has anything to receive if none is subscribed
pub most_absent : (lags : List (Option ℕ)) → present lags ≡ 0 → most_lag lags ≡ 0
most_absent [] none = refl
most_absent (None ∷ lags) none = most_absent lags none
most_absent (Some l ∷ lags) none = absurd (omega arith)

-- ---- a change of each

module _ (change : Option ℕ → Option ℕ) (none : change None ≡ None) where
  pub kept-map : (lags : List (Option ℕ)) (i : ℕ) → kept_of i (map change lags) ≡ change (kept_of i lags)
  kept-map [] zero = sym none
  kept-map [] (suc i) = sym none
  kept-map (lag ∷ lags) zero = refl
  kept-map (lag ∷ lags) (suc i) = kept-map lags i

  pub present-map : (after : ℕ → ℕ) → ((lag : ℕ) → change (Some lag) ≡ Some (after lag)) → (lags : List (Option ℕ)) → present (map change lags) ≡ present lags
  present-map after some [] = refl
  present-map after some (None ∷ lags) = subst (λ (lag : Option ℕ). present (lag ∷ map change lags) ≡ present lags) (sym none) (present-map after some lags)
  present-map after some (Some l ∷ lags) = subst (λ (lag : Option ℕ). present (lag ∷ map change lags) ≡ present lags + 1) (sym (some l)) (ap (λ n. n + 1) (present-map after some lags))

-- ---- own first values

pub own-set_same : (owns : List (List ℕ)) (i : ℕ) (own : List ℕ) → i < length owns → own_left i (set owns i own) ≡ own
own-set_same owns i own l = ap own_in (get-set_same owns i own l)

pub own-set_other : (owns : List (List ℕ)) (i j : ℕ) (own : List ℕ) → i ≢ j → j < length owns → own_left j (set owns i own) ≡ own_left j owns
own-set_other owns i j own apart l = ap own_in (get-set_other owns i j own apart l)
