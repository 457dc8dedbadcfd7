-- A drain after some values, after one more value, and at its end.
use Rattle.std.proofs.Common.{◌≡◌, ◌≢◌, ℕ, ◌+◌, ◌<◌, List, [], ◌∷◌, ◌++◌, length, refl, sym, ap, ◌∙◌, subst, arith, length-append, append_assoc}
use Rattle.std.specs.Prelude.{Result, Ok}
use Rattle.std.specs.List.{FoldsTo}
use Rattle.std.proofs.lemmas.List.{append-nil}
use Rattle.flow_law.specs.declared.fault.FlowFault.{FlowFault}
use Rattle.flow_law.specs.declared.outcome.Next.{Next}
use Rattle.flow_law.specs.declared.outcome.Next.TheVariants as next
use Rattle.flow_law.specs.declared.outcome.Drained.{Drained}
use Rattle.flow_law.specs.declared.outcome.Drained.TheVariants as drained
use Rattle.flow_law.specs.flow.Draining.{NextsGive, TakesAtMost}

takes_more : {P A : Type 0} (R : P → A → P → Type 0) (p q r : P) (xs : List A) (x : A) → FoldsTo R p xs q → R q x r → FoldsTo R p (xs ++ x ∷ []) r
takes_more R p q r [] x folds more = (r, subst (λ t. R t x r) (sym folds) more, refl)
takes_more R p q r (y ∷ ys) x folds more = (folds.0, folds.1, takes_more R folds.0 q r ys x folds.2 more)

module _ {X T : Type 0} (Nexts : X → Result (Next T) FlowFault → X → Type 0) where
  -- `count` values were taken, and are in the list
  pub record HasTaken (count : ℕ) (old : X) (old_list new_list : List T) (now : X) : Type 0 where
    pub values : List T
    pub taken : NextsGive Nexts old values now
    pub appended : new_list ≡ old_list ++ values
    pub counted : length values ≡ count

  pub taken_none : (old : X) (list : List T) → HasTaken 0 old list list old
  taken_none old list = record { values = []; taken = refl; appended = sym (append-nil list); counted = refl }

  pub taken_more : (n : ℕ) (old now after : X) (old_list list longer : List T) (v : T) → HasTaken n old old_list list now → Nexts now (Ok (next.Value v)) after
      → longer ≡ list ++ v ∷ [] → HasTaken (n + 1) old old_list longer after
  taken_more n old now after old_list list longer v h more e = record {
    values = h.values ++ v ∷ [];
    taken = takes_more (λ p x q. Nexts p (Ok (next.Value x)) q) old now after h.values v h.taken more;
    appended = e ∙ ap (λ l. l ++ v ∷ []) h.appended ∙ append_assoc old_list h.values (v ∷ []);
    counted = length-append h.values (v ∷ []) ∙ ap (λ k. k + 1) h.counted;
  }

  -- how a drain ends, if `Ends` says what may end it
  module _ (Ends : X → Result Drained FlowFault → X → Type 0) where
    pub takes_most : (most : ℕ) (old now : X) (old_list list : List T) → HasTaken most old old_list list now → Ends now (Ok drained.Most) now
        → TakesAtMost Nexts Ends most old old_list (Ok drained.Most) list now
    takes_most most old now old_list list h ended = record {
      values = h.values;
      last = now;
      taken = h.taken;
      ended = ended;
      appended = h.appended;
      within = omega (arith, h.counted);
      enough = (λ _. h.counted, λ _. refl);
    }

    pub takes_before : (n most : ℕ) (old now after : X) (old_list list : List T) (result : Result Drained FlowFault) → HasTaken n old old_list list now → n < most
        → Ends now result after → result ≢ Ok drained.Most → TakesAtMost Nexts Ends most old old_list result list after
    takes_before n most old now after old_list list result h less ended other = record {
      values = h.values;
      last = now;
      taken = h.taken;
      ended = ended;
      appended = h.appended;
      within = omega (arith, h.counted, less);
      enough = (λ e. absurd (other e), λ e. absurd (omega (arith, h.counted, less, e)));
    }
