-- What a checker keeps for each caller, in a list with a place for each: None if the caller is not subscribed.
-- No public clause cites this module.
use Rattle.std.specs.Prelude.{ℕ, ◌+◌, List, [], ◌∷◌, map, slice_get, Option, Some, None}

module _ {A : Type 0} where
  -- what is kept at a place, None beyond the last one
  abbrev pub kept_in : Option (Option A) → Option A
  kept_in None = None
  kept_in (Some kept) = kept

  -- what is kept for this caller
  abbrev pub kept_of : ℕ → List (Option A) → Option A
  kept_of caller callers = kept_in (slice_get callers caller)

  -- how many callers are subscribed
  abbrev pub present : List (Option A) → ℕ
  present [] = 0
  present (None ∷ callers) = present callers
  present (Some kept ∷ callers) = present callers + 1

  -- no caller is subscribed
  abbrev pub none_subscribed : {C : Type 0} → List C → List (Option A)
  none_subscribed = map (λ _. None)
