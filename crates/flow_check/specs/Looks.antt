-- Calls that change nothing. No public clause cites this module.
use Rattle.std.specs.Prelude.{◌≡◌, ℕ, Bool, true, Option, Some}

-- `stepped s caller c` is the state after the caller's call c in the state s, if the flow may give the recorded answer.
module _ {S C : Type 0} (stepped : S → ℕ → C → Option S) where
  -- steps lead from sound states only to sound states
  abbrev pub IsKept : (S → Type 0) → Type 0
  IsKept IsSound = (s after : S) (caller : ℕ) (c : C) → IsSound s → stepped s caller c ≡ Some after → IsSound after

  -- a look changes nothing, if the flow may give the recorded answer
  abbrev pub OnlyLooks : (S → Type 0) → (C → Bool) → Type 0
  OnlyLooks IsSound is_look = (s after : S) (caller : ℕ) (c : C) → IsSound s → is_look c ≡ true → stepped s caller c ≡ Some after → after ≡ s
