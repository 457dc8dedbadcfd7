-- What was known at a cut of the calls of each caller: the first ones. Begin with `known_at`, `known_from` and `well_known`.
use Rattle.std.proofs.Common.{◌≡◌, ℕ, suc, zero, ◌+◌, ◌≤◌, Bool, true, false, List, [], ◌∷◌, map, cond, Option, Some, None, refl, sym, ap, ◌∙◌, subst, arith}
use Rattle.std.specs.Prelude.{slice_get, filter, Vec}
use Rattle.std.specs.Option.{option_map}
use Rattle.std.specs.declared.alloc.Global.{Global}
use Rattle.std.proofs.lemmas.Bool.{false≢true, cond-true}
use Rattle.std.proofs.lemmas.Option.{slice_get_within, slice_get-map, same_Some}
use Rattle.flow_law.proofs.Rows.{split}
use Rattle.flow_check.specs.declared.timed.Timed.{Timed}
use Rattle.flow_check.specs.declared.moments.Cut.{Cut}
use Rattle.flow_check.specs.declared.record.FaultKind.{FaultKind}
use Rattle.flow_check.specs.declared.record.FaultKind.TheVariants.{EndsEarly, BeginsEarly}
use Rattle.flow_check.specs.Records.{CallsByCaller, call_in, recorded, is_over_before, may_follow, IsWellTimed, HasFault}
use Rattle.flow_check.specs.Moments.{is_past, known_call, known_row, IsKnown}
use Rattle.flow_check.proofs.Ends.{past_earlier, not_over, past_end_again, begins_later, follows_known}

-- ---- lists that begin with the elements that pass a test

module _ {A : Type 0} (passes : A → Bool) where
  -- the element before one that passes also passes
  abbrev pub PassFirst : List A → Type 0
  PassFirst xs = (k : ℕ) (x y : A) → slice_get xs k ≡ Some x → slice_get xs (suc k) ≡ Some y → passes y ≡ true → passes x ≡ true

  fails_next : (xs : List A) (x z : A) → PassFirst (x ∷ z ∷ xs) → passes x ≡ false → passes z ≡ false
  fails_next xs x z first e = split (passes z) (λ b. passes z ≡ b → b ≡ false) (λ _ f. absurd (false≢true (sym e ∙ first 0 x z refl refl f))) (λ _ _. refl) refl

  -- nothing passes after what does not
  none_after : (xs : List A) (x : A) → PassFirst (x ∷ xs) → passes x ≡ false → (k : ℕ) (y : A) → slice_get xs k ≡ Some y → passes y ≡ false
  none_after [] x first e k y h = let past = slice_get_within [] k y h in absurd (omega arith)
  none_after (z ∷ xs) x first e zero y h = subst (λ (a : A). passes a ≡ false) (same_Some z y h) (fails_next xs x z first e)
  none_after (z ∷ xs) x first e (suc k) y h = none_after xs z (λ j a b. first (suc j) a b) (fails_next xs x z first e) k y h

  pub kept_at : (xs : List A) (k : ℕ) (x : A) → PassFirst xs → slice_get xs k ≡ Some x → passes x ≡ true → slice_get (filter passes xs) k ≡ Some x
  kept_at [] k x first h e = let past = slice_get_within [] k x h in absurd (omega arith)
  kept_at (z ∷ xs) zero x first h e =
      ap (λ (ys : List A). slice_get ys 0) (cond-true (passes z) (z ∷ filter passes xs) (filter passes xs) (subst (λ (a : A). passes a ≡ true) (sym (same_Some z x h)) e)) ∙ h
  kept_at (z ∷ xs) (suc k) x first h e =
      split (passes z) (λ b. passes z ≡ b → slice_get (cond b (z ∷ filter passes xs) (filter passes xs)) (suc k) ≡ Some x)
      (λ _ _. kept_at xs k x (λ j a b. first (suc j) a b) h e)
      (λ _ f. absurd (false≢true (sym (none_after xs z first f k x h) ∙ e))) refl

  pub kept_from : (xs : List A) (k : ℕ) (x : A) → PassFirst xs → slice_get (filter passes xs) k ≡ Some x → (slice_get xs k ≡ Some x) × (passes x ≡ true)
  kept_from [] k x first h = let past = slice_get_within [] k x h in absurd (omega arith)
  kept_from (z ∷ xs) zero x first h =
      split (passes z) (λ b. passes z ≡ b → slice_get (cond b (z ∷ filter passes xs) (filter passes xs)) 0 ≡ Some x → (Some z ≡ Some x) × (passes x ≡ true))
      (λ _ e s. (s, subst (λ (a : A). passes a ≡ true) (same_Some z x s) e))
      (λ _ e s. let more = kept_from xs zero x (λ j a b. first (suc j) a b) s in absurd (false≢true (sym (none_after xs z first e zero x more.0) ∙ more.1))) refl h
  kept_from (z ∷ xs) (suc k) x first h =
      split (passes z) (λ b. passes z ≡ b → slice_get (cond b (z ∷ filter passes xs) (filter passes xs)) (suc k) ≡ Some x → (slice_get xs k ≡ Some x) × (passes x ≡ true))
      (λ _ _ s. kept_from xs k x (λ j a b. first (suc j) a b) s)
      (λ _ e s. let more = kept_from xs (suc k) x (λ j a b. first (suc j) a b) s in absurd (false≢true (sym (none_after xs z first e (suc k) x more.0) ∙ more.1))) refl h

-- ---- a caller's calls

module _ {C : Type 0} (cut : Cut) where
  abbrev pub began : Timed C → Bool
  began c = is_past cut c.begin

  known_in : (o : Option (Timed C)) (d : Timed C) → option_map (known_call cut) o ≡ Some d → (c : Timed C) × (o ≡ Some c) × (d ≡ known_call cut c)
  known_in (Some c) d h = (c, refl, sym (same_Some (known_call cut c) d h))
  known_in None d h = absurd (cc)

  row_at : (row : List (Timed C)) (k : ℕ) (c : Timed C) → PassFirst began row → slice_get row k ≡ Some c → began c ≡ true → slice_get (known_row cut row) k ≡ Some (known_call cut c)
  row_at row k c first h e = slice_get-map (known_call cut) (filter began row) k ∙ ap (option_map (known_call cut)) (kept_at began row k c first h e)

  row_from : (row : List (Timed C)) (k : ℕ) (d : Timed C) → PassFirst began row → slice_get (known_row cut row) k ≡ Some d
      → (c : Timed C) × (slice_get row k ≡ Some c) × (began c ≡ true) × (d ≡ known_call cut c)
  row_from row k d first h =
      let found = known_in (slice_get (filter began row) k) d (sym (slice_get-map (known_call cut) (filter began row) k) ∙ h) in
      let kept = kept_from began row k found.0 first found.1 in
      (found.0, kept.0, kept.1, found.2)

-- what was known at a cut has what was known at an earlier one
pub known_row_again : {C : Type 0} (early cut : Cut) → ((moment : ℕ) → is_past early moment ≡ true → is_past cut moment ≡ true)
    → (row : List (Timed C)) → known_row early (known_row cut row) ≡ known_row early row
known_row_again early cut within [] = refl
known_row_again {C} early cut within (c ∷ row) =
    let more = known_row_again early cut within row in
    split (is_past cut c.begin) (λ b. is_past cut c.begin ≡ b → known_row early (map (known_call cut) (cond b (c ∷ filter (began cut) row) (filter (began cut) row))) ≡ known_row early (c ∷ row))
    (λ _ _. split (is_past early c.begin)
    (λ b. map (known_call early) (cond b (known_call cut c ∷ filter (began early) (known_row cut row)) (filter (began early) (known_row cut row)))
    ≡ map (known_call early) (cond b (c ∷ filter (began early) row) (filter (began early) row)))
    (λ _. ap (λ (end : Option ℕ). record c { end = end } ∷ known_row early (known_row cut row)) (past_end_again early cut within c.end) ∙ ap (λ (rest : List (Timed C)). known_call early c ∷ rest) more)
    (λ _. more))
    (λ _ e. split (is_past early c.begin) (λ b. is_past early c.begin ≡ b → known_row early (known_row cut row) ≡ map (known_call early) (cond b (c ∷ filter (began early) row) (filter (began early) row)))
    (λ _ f. absurd (false≢true (sym e ∙ within c.begin f))) (λ _ _. more) refl) refl

-- ---- the calls of all callers

-- the call at this place of a caller's calls
abbrev row_call : {C : Type 0} → Option (List (Timed C)) → ℕ → Option (Timed C)
row_call None k = None
row_call (Some row) k = slice_get row k

module _ {C : Type 0} where
  row_called : (o : Option (Vec (Timed C) Global)) (k : ℕ) → call_in o k ≡ row_call (option_map (λ row. row.items) o) k
  row_called None k = refl
  row_called (Some row) k = refl

  recorded_row : (callers : CallsByCaller C) (i k : ℕ) → recorded callers i k ≡ row_call (slice_get (map (λ row. row.items) callers) i) k
  recorded_row callers i k = row_called (slice_get callers i) k ∙ sym (ap (λ o. row_call o k) (slice_get-map (λ row. row.items) callers i))

module _ {C : Type 0} (cut : Cut) (callers known : CallsByCaller C) (well : IsWellTimed callers) (is : IsKnown cut callers known) where
  recorded_known : (i k : ℕ) → recorded known i k ≡ row_call (option_map (λ row. known_row cut row.items) (slice_get callers i)) k
  recorded_known i k = recorded_row known i k ∙ ap (λ rows. row_call (slice_get rows i) k) is ∙ ap (λ o. row_call o k) (slice_get-map (λ row. known_row cut row.items) callers i)

  begins_rise : (i k : ℕ) (c d : Timed C) → recorded callers i k ≡ Some c → recorded callers i (suc k) ≡ Some d → c.begin ≤ d.begin
  begins_rise i k c d at next =
      let one = well i k c at in
      let after = subst (λ (n : ℕ). recorded callers i n ≡ Some d) (omega arith) next in
      begins_later c d one.0 (one.1 d after)

  pass_first : (i : ℕ) (row : Vec (Timed C) Global) → slice_get callers i ≡ Some row → PassFirst (began cut) row.items
  pass_first i row e k x y at next past =
      past_earlier cut x.begin y.begin (begins_rise i k x y (ap (λ o. call_in o k) e ∙ at) (ap (λ o. call_in o (suc k)) e ∙ next)) past

  -- a call that had begun was known, at its place
  pub known_at : (i k : ℕ) (c : Timed C) → recorded callers i k ≡ Some c → is_past cut c.begin ≡ true → recorded known i k ≡ Some (known_call cut c)
  known_at i k c h e = recorded_known i k ∙ found (slice_get callers i) (pass_first i) h
    where
      found : (o : Option (Vec (Timed C) Global)) → ((row : Vec (Timed C) Global) → o ≡ Some row → PassFirst (began cut) row.items)
          → call_in o k ≡ Some c → row_call (option_map (λ row. known_row cut row.items) o) k ≡ Some (known_call cut c)
      found None first at = absurd (cc)
      found (Some row) first at = row_at cut row.items k c (first row refl) at e

  -- what was known is a call that had begun
  pub known_from : (i k : ℕ) (d : Timed C) → recorded known i k ≡ Some d → (c : Timed C) × (recorded callers i k ≡ Some c) × (is_past cut c.begin ≡ true) × (d ≡ known_call cut c)
  known_from i k d h = found (slice_get callers i) (pass_first i) (sym (recorded_known i k) ∙ h)
    where
      found : (o : Option (Vec (Timed C) Global)) → ((row : Vec (Timed C) Global) → o ≡ Some row → PassFirst (began cut) row.items)
          → row_call (option_map (λ row. known_row cut row.items) o) k ≡ Some d → (c : Timed C) × (call_in o k ≡ Some c) × (is_past cut c.begin ≡ true) × (d ≡ known_call cut c)
      found None first at = absurd (cc)
      found (Some row) first at = row_from cut row.items k d (first row refl) at

  pub well_known : IsWellTimed known
  well_known i k one h =
      let c = known_from i k one h in
      let at = well i k c.0 c.1 in (
        subst (λ (t : Timed C). is_over_before t.end t.begin ≡ false) (sym c.3) (not_over cut c.0.end c.0.begin at.0),
        λ other g. let d = known_from i (k + 1) other g in
            subst (λ (t : Timed C). may_follow t other ≡ true) (sym c.3) (
            subst (λ (t : Timed C). may_follow (known_call cut c.0) t ≡ true) (sym d.3) (follows_known cut c.0 d.0 (at.1 d.0 d.1) d.2)),
      )

-- ---- no faults

-- a well-timed record has no fault
pub no_fault : {C : Type 0} (callers : CallsByCaller C) (caller index : ℕ) (kind : FaultKind) → IsWellTimed callers → HasFault callers caller index kind → ⊥
no_fault callers caller index EndsEarly well has = false≢true (sym (well caller index has.0 has.1).0 ∙ has.2)
no_fault {C} callers caller index BeginsEarly well has =
    let is = has.1.1 in
    let next = subst (λ (n : ℕ). recorded callers caller n ≡ Some is.0) is.1 is.3 in
    false≢true (sym is.4 ∙ (well caller has.0 has.1.0 is.2).1 is.0 next)
