-- Calls that no other caller can see: a look, or a `next` of a state flow. Begin with `ArePrivate`. No public clause cites this module.
--   caller 0    |----set 1----|    |---set 2---|
--   caller 1        |------next: 1------|             once the value is 1, the `next` may come at once: no other caller can tell
use Rattle.std.specs.Prelude.{◌≡◌, ℕ, Bool, true, Option, Some}
use Rattle.flow_check.specs.Remaining.{IsStep}
use Rattle.flow_check.specs.Looks.{IsKept}

-- `stepped s caller c` is the state after the caller's call c in the state s, if the flow may give the recorded answer.
-- `Ahead caller c s t` says that t is the state s, but that the caller's call c has happened in it already.
module _ {S C : Type 0} (stepped : S → ℕ → C → Option S) (may_skip : C → Bool) where
  -- it does not matter when a private call happens, once the flow may give its answer
  pub record ArePrivate (IsSound : S → Type 0) (is_private : C → Bool) (Ahead : ℕ → C → S → S → Type 0) : Type 0 where
    -- a private call that is made puts its caller ahead
    pub begins : (s t : S) (caller : ℕ) (c : C) → IsSound s → is_private c ≡ true → stepped s caller c ≡ Some t → Ahead caller c s t
    -- meanwhile the calls of others have the same answers
    pub keeps : (s t after : S) (caller other : ℕ) (c d : C) → (caller ≡ other → ⊥) → IsSound s → is_private c ≡ true → Ahead caller c s t
        → IsStep stepped may_skip s other d after → (u : S) × IsStep stepped may_skip t other d u × Ahead caller c after u
    -- once the call happens, both states are the same
    pub ends : (s t after : S) (caller : ℕ) (c : C) → IsSound s → is_private c ≡ true → Ahead caller c s t → IsStep stepped may_skip s caller c after → after ≡ t

  -- a search that begins in this state may make private calls first
  abbrev pub MayMakePrivate : (S → Type 0) → (C → Bool) → (ℕ → C → S → S → Type 0) → S → Type 0
  MayMakePrivate IsSound is_private Ahead first = IsSound first × IsKept stepped IsSound × ArePrivate IsSound is_private Ahead
