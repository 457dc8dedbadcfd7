-- What is left of a record after some of its calls have happened, and how a checker's steps go through it.
-- No public clause cites this module.
use Rattle.std.specs.Prelude.{◌≡◌, ◌⊎◌, ℕ, ◌+◌, Bool, true, false, List, [], ◌∷◌, map, slice_get, slice_set, slice_index, Option, Some, None}
use Rattle.flow_check.specs.declared.timed.Timed.{Timed}
use Rattle.flow_check.specs.Records.{CallsByCaller, recorded, is_over_before}

-- the counts of calls before any call: 0 for each caller
abbrev pub none_placed : {C : Type 0} → CallsByCaller C → List ℕ
none_placed = map (λ _. 0)

-- the counts of calls after one more call of this caller
abbrev pub placing : ℕ → List ℕ → List ℕ
placing caller placed = slice_set placed caller (slice_index placed caller + 1)

module _ {C : Type 0} (callers : CallsByCaller C) where
  -- the caller's call of this index, if there is one
  abbrev pub next_at : ℕ → Option ℕ → Option (Timed C)
  next_at caller None = None
  next_at caller (Some k) = recorded callers caller k

  -- a caller's first call that has not happened
  abbrev pub next_call_of : List ℕ → ℕ → Option (Timed C)
  next_call_of placed caller = next_at caller (slice_get placed caller)

  -- no caller's next call was over before this moment
  abbrev pub NoneOverBefore : ℕ → List ℕ → Type 0
  NoneOverBefore moment placed = (other : ℕ) (d : Timed C) → next_call_of placed other ≡ Some d → is_over_before d.end moment ≡ false

  -- no caller's next call was over before c began
  abbrev pub MayComeNext : List ℕ → Timed C → Type 0
  MayComeNext placed c = NoneOverBefore c.begin placed

  -- every caller's next call is pending
  abbrev pub OwesNothing : List ℕ → Type 0
  OwesNothing placed = (caller : ℕ) (d : Timed C) → next_call_of placed caller ≡ Some d → d.end ≡ None

-- `stepped s caller c` is the state after the caller's call c in the state s, if the flow may give the recorded answer.
-- `may_skip c` says that the call may have done nothing.
module _ {S C : Type 0} (stepped : S → ℕ → C → Option S) (may_skip : C → Bool) where
  -- the call is made, or it is skipped and changes nothing
  abbrev pub IsStep : S → ℕ → C → S → Type 0
  IsStep s caller c after = (stepped s caller c ≡ Some after) ⊎ ((may_skip c ≡ true) × (after ≡ s))

  module _ (callers : CallsByCaller C) where
    -- from this state, in which these counts of calls have happened, this order of steps goes through the rest
    abbrev pub GoesThrough : S → List ℕ → List ℕ → Type 0
    GoesThrough s placed [] = OwesNothing callers placed
    GoesThrough s placed (caller ∷ order) =
        (c : Timed C) × (next_call_of callers placed caller ≡ Some c) × MayComeNext callers placed c
        × ((after : S) × IsStep s caller c.call after × GoesThrough after (placing caller placed) order)

    -- the order goes through the whole record
    abbrev pub GoesThroughAll : S → List ℕ → Type 0
    GoesThroughAll first order = GoesThrough first (none_placed callers) order
