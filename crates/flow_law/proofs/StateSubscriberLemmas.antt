-- Subscribers of a state flow, in a list.
use Rattle.std.proofs.Common.{◌≡◌, ℕ, false, not, ◌==◌, cond, List, [], ◌∷◌, ◌++◌, Option, Some, None, refl, sym, ap, ◌∙◌, subst, arith}
use Rattle.std.proofs.lemmas.Bool.{cond_both, cond-true, cond-false}
use Rattle.std.proofs.lemmas.Bool.Decides.{Decides-eqb, nat_tests}
use Rattle.flow_law.specs.flow.StateFlow.{StateSubscriber, last_got_by, with_last, without_subscriber}
use Rattle.flow_law.proofs.Rows.{split}

module _ {T : Type 0} where
  pub last-snoc : (number : ℕ) (rs : List (StateSubscriber T)) (v : StateSubscriber T) → last_got_by number rs ≡ None → v.number ≡ number → last_got_by number (rs ++ v ∷ []) ≡ Some v.last
  last-snoc number [] v h e = cond_both (v.number == number) (Some v.last) None (λ o. o ≡ Some v.last) (λ _. refl) (λ f. absurd (grind (arith, nat_tests, e, f)))
  last-snoc number (u ∷ us) v h e = cond_both (u.number == number) (Some u.last) (last_got_by number us)
      (λ o. o ≡ None → cond (u.number == number) (Some u.last) (last_got_by number (us ++ v ∷ [])) ≡ Some v.last)
      (λ t h. absurd (cc))
      (λ f h. cond-false (u.number == number) (Some u.last) (last_got_by number (us ++ v ∷ [])) f ∙ last-snoc number us v h e) h

  pub last-snoc_other : (number : ℕ) (rs : List (StateSubscriber T)) (v : StateSubscriber T) → (v.number == number) ≡ false → last_got_by number (rs ++ v ∷ []) ≡ last_got_by number rs
  last-snoc_other number [] v f = cond-false (v.number == number) (Some v.last) None f
  last-snoc_other number (u ∷ us) v f = ap (λ o. cond (u.number == number) (Some u.last) o) (last-snoc_other number us v f)

  pub last-with : (number : ℕ) (q : T) (l : Option T) (us : List (StateSubscriber T)) → last_got_by number us ≡ Some l → last_got_by number (with_last number q us) ≡ Some (Some q)
  last-with number q l [] e = absurd (cc)
  last-with number q l (u ∷ us) e = split (u.number == number) (λ t. cond t (Some u.last) (last_got_by number us) ≡ Some l
      → last_got_by number (cond t (record u { last = Some q } ∷ us) (u ∷ with_last number q us)) ≡ Some (Some q))
      (λ t e. cond-true (u.number == number) (Some (Some q)) (last_got_by number us) t)
      (λ t e. cond-false (u.number == number) (Some u.last) (last_got_by number (with_last number q us)) t ∙ last-with number q l us e) e

  pub last-with_other : (number other : ℕ) (q : T) (us : List (StateSubscriber T)) → (other == number) ≡ false → last_got_by number (with_last other q us) ≡ last_got_by number us
  last-with_other number other q [] f = refl
  last-with_other number other q (u ∷ us) f = cond_both (u.number == other) (record u { last = Some q } ∷ us) (u ∷ with_last other q us) (λ vs. last_got_by number vs ≡ last_got_by number (u ∷ us))
      (λ t. let not_it : (u.number == number) ≡ false = subst (λ n. (n == number) ≡ false) (sym ((Decides-eqb u.number other).0 t)) f in
      cond-false (u.number == number) (Some (Some q)) (last_got_by number us) not_it ∙ sym (cond-false (u.number == number) (Some u.last) (last_got_by number us) not_it))
      (λ _. ap (λ o. cond (u.number == number) (Some u.last) o) (last-with_other number other q us f))

  pub last-without : (number : ℕ) (us : List (StateSubscriber T)) → last_got_by number (without_subscriber number us) ≡ None
  last-without number [] = refl
  last-without number (u ∷ us) = split (u.number == number) (λ t. last_got_by number (cond (not t) (u ∷ without_subscriber number us) (without_subscriber number us)) ≡ None)
      (λ t. last-without number us)
      (λ t. cond-false (u.number == number) (Some u.last) (last_got_by number (without_subscriber number us)) t ∙ last-without number us)

  pub last-without_other : (number other : ℕ) (us : List (StateSubscriber T)) → (other == number) ≡ false → last_got_by number (without_subscriber other us) ≡ last_got_by number us
  last-without_other number other [] f = refl
  last-without_other number other (u ∷ us) f = split (u.number == other)
      (λ t. last_got_by number (cond (not t) (u ∷ without_subscriber other us) (without_subscriber other us)) ≡ last_got_by number (u ∷ us))
      (λ t. last-without_other number other us f
      ∙ sym (cond-false (u.number == number) (Some u.last) (last_got_by number us) (subst (λ n. (n == number) ≡ false) (sym ((Decides-eqb u.number other).0 t)) f)))
      (λ t. ap (λ o. cond (u.number == number) (Some u.last) o) (last-without_other number other us f))
