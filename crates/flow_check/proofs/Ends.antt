-- The ends and beginnings of calls as they were known at a cut.
use Rattle.std.proofs.Common.{◌≡◌, ℕ, ◌≤◌, Bool, true, false, ◌==◌, ◌&&◌, ◌||◌, cond, Option, Some, None, refl, sym, ap, ◌∙◌, subst, inl, inr, arith, eq-eqb}
use Rattle.std.proofs.lemmas.Bool.{false≢true, or_cases, or_left, and_parts, ltb-true, ltb-false, lt-ltb, leb-true, le-leb}
use Rattle.std.proofs.lemmas.Bool.Decides.{Decides-eqb}
use Rattle.flow_law.proofs.Rows.{split}
use Rattle.flow_check.specs.declared.timed.Timed.{Timed}
use Rattle.flow_check.specs.declared.moments.Cut.{Cut}
use Rattle.flow_check.specs.declared.moments.Cut.TheVariants.{Before, By}
use Rattle.flow_check.specs.Records.{is_over_before, is_over_by, is_same_end, may_follow}
use Rattle.flow_check.specs.Moments.{is_past, past_end, known_call}

pub and_both : (a b : Bool) → a ≡ true → b ≡ true → (a && b) ≡ true
and_both a b e f = subst (λ (x : Bool). (x && b) ≡ true) (sym e) f

pub or_second : (a b : Bool) → b ≡ true → (a || b) ≡ true
or_second true b e = refl
or_second false b e = e

-- an earlier moment is past too
pub past_earlier : (cut : Cut) (a b : ℕ) → a ≤ b → is_past cut b ≡ true → is_past cut a ≡ true
past_earlier (Before last) a b low e = let upto = ltb-true b last e in lt-ltb a last (omega arith)
past_earlier (By last) a b low e = let upto = leb-true b last e in le-leb a last (omega arith)

-- a later moment is not past either
pub later_not_past : (cut : Cut) (a b : ℕ) → a ≤ b → is_past cut a ≡ false → is_past cut b ≡ false
later_not_past cut a b low e =
    split (is_past cut b) (λ x. is_past cut b ≡ x → x ≡ false) (λ _ f. absurd (false≢true (sym e ∙ past_earlier cut a b low f))) (λ _ _. refl) refl

-- ---- ends

module _ (cut : Cut) where
  -- a call that is not over before a moment was not known to be
  pub not_over : (end : Option ℕ) (moment : ℕ) → is_over_before end moment ≡ false → is_over_before (past_end cut end) moment ≡ false
  not_over None moment e = refl
  not_over (Some end) moment e = split (is_past cut end) (λ b. is_over_before (cond b (Some end) None) moment ≡ false) (λ _. e) (λ _. refl)

  -- a call that is over by a known moment was known to be
  pub over_known : (end : Option ℕ) (moment : ℕ) → is_over_by end moment ≡ true → is_past cut moment ≡ true → is_over_by (past_end cut end) moment ≡ true
  over_known None moment e past = absurd (false≢true e)
  over_known (Some end) moment e past =
      subst (λ b. is_over_by (cond b (Some end) None) moment ≡ true) (sym (past_earlier cut end moment (leb-true end moment e) past)) e

  -- a call that is not over before a moment that is not past was pending
  pub pending_known : (end : Option ℕ) (moment : ℕ) → is_over_before end moment ≡ false → is_past cut moment ≡ false → past_end cut end ≡ None
  pending_known None moment e late = refl
  pending_known (Some end) moment e late =
      ap (λ b. cond b (Some end) None) (later_not_past cut moment end (ltb-false end moment e) late)

  same_self : (end : Option ℕ) → is_same_end end end ≡ true
  same_self None = refl
  same_self (Some end) = eq-eqb end end refl

  same_known : (one other : Option ℕ) → is_same_end one other ≡ true → is_same_end (past_end cut one) (past_end cut other) ≡ true
  same_known None None e = refl
  same_known (Some one) (Some other) e =
      subst (λ (end : ℕ). is_same_end (past_end cut (Some one)) (past_end cut (Some end)) ≡ true) ((Decides-eqb one other).0 e) (same_self (past_end cut (Some one)))
  same_known None (Some other) e = absurd (false≢true e)
  same_known (Some one) None e = absurd (false≢true e)

-- an end that is cut off twice is known as at the earlier cut
pub past_end_again : (early cut : Cut) → ((moment : ℕ) → is_past early moment ≡ true → is_past cut moment ≡ true)
    → (end : Option ℕ) → past_end early (past_end cut end) ≡ past_end early end
past_end_again early cut within None = refl
past_end_again early cut within (Some end) = split (is_past cut end) (λ b. is_past cut end ≡ b → past_end early (cond b (Some end) None) ≡ past_end early (Some end))
    (λ _ _. refl)
    (λ _ e. split (is_past early end) (λ b. is_past early end ≡ b → None ≡ cond b (Some end) None)
    (λ _ f. absurd (false≢true (sym e ∙ within end f))) (λ _ _. refl) refl) refl

-- ---- calls

-- what is over by a moment began by then
over_began : (end : Option ℕ) (begin moment : ℕ) → is_over_before end begin ≡ false → is_over_by end moment ≡ true → begin ≤ moment
over_began None begin moment e f = absurd (false≢true f)
over_began (Some end) begin moment e f = let high = ltb-false end begin e in let low = leb-true end moment f in omega arith

module _ {C : Type 0} where
  -- a call that may follow another one begins no earlier
  pub begins_later : (c d : Timed C) → is_over_before c.end c.begin ≡ false → may_follow c d ≡ true → c.begin ≤ d.begin
  begins_later c d e f = elim (or_cases (is_over_by c.end d.begin) ((c.begin == d.begin) && is_same_end c.end d.end) f) [
    | inl over ↦ over_began c.end c.begin d.begin e over
    | inr same ↦ let at = (Decides-eqb c.begin d.begin).0 (and_parts (c.begin == d.begin) (is_same_end c.end d.end) same).0 in omega arith
  ]

  -- and it may follow it as both were known
  pub follows_known : (cut : Cut) (c d : Timed C) → may_follow c d ≡ true → is_past cut d.begin ≡ true → may_follow (known_call cut c) (known_call cut d) ≡ true
  follows_known cut c d f past = elim (or_cases (is_over_by c.end d.begin) ((c.begin == d.begin) && is_same_end c.end d.end) f) [
    | inl over ↦ or_left (is_over_by (past_end cut c.end) d.begin) ((c.begin == d.begin) && is_same_end (past_end cut c.end) (past_end cut d.end)) (over_known cut c.end d.begin over past)
    | inr same ↦
        let parts = and_parts (c.begin == d.begin) (is_same_end c.end d.end) same in
        or_second (is_over_by (past_end cut c.end) d.begin) ((c.begin == d.begin) && is_same_end (past_end cut c.end) (past_end cut d.end))
        (and_both (c.begin == d.begin) (is_same_end (past_end cut c.end) (past_end cut d.end)) parts.0 (same_known cut c.end d.end parts.1))
  ]
