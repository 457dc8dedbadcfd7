-- Calls that change nothing are private.
use Rattle.std.proofs.Common.{◌≡◌, ℕ, Bool, Option, refl, sym, ◌∙◌, subst, inl, inr}
use Rattle.flow_check.specs.Remaining.{IsStep}
use Rattle.flow_check.specs.Looks.{OnlyLooks}
use Rattle.flow_check.specs.PrivateCalls.{ArePrivate}

module _ {S C : Type 0} (stepped : S → ℕ → C → Option S) (may_skip : C → Bool) (IsSound : S → Type 0) (is_look : C → Bool) (looks : OnlyLooks stepped IsSound is_look) where
  abbrev Same : ℕ → C → S → S → Type 0
  Same caller c s t = t ≡ s

  pub of_looks : ArePrivate stepped may_skip IsSound is_look Same
  of_looks = record {
    begins = λ s t caller c sound look step. looks s t caller c sound look step;
    keeps = λ s t after caller other c d apart sound look is step. (after, subst (λ (u : S). IsStep stepped may_skip u other d after) (sym is) step, refl);
    ends = λ s t after caller c sound look is step. elim step [
      | inl made ↦ looks s after caller c sound look made ∙ sym is
      | inr skipped ↦ skipped.1 ∙ sym is
    ];
  }
