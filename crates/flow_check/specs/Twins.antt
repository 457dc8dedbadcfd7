-- Calls of two callers that may be swapped. Begin with `IsEarlierTwin`. No public clause cites this module.
--   caller 0    |-----set 1-----|            |--value: 1--|
--   caller 1      |--set 1--|                                   at caller 0's turn caller 1 may as well have it, and leave its own to it
use Rattle.std.specs.Prelude.{◌≡◌, ℕ, ◌+◌, Bool, true, slice_get, List, Option, Some}
use Rattle.flow_check.specs.declared.timed.Timed.{Timed}
use Rattle.flow_check.specs.Records.{CallsByCaller, recorded, is_over_before}
use Rattle.flow_check.specs.Remaining.{next_call_of, MayComeNext, IsStep}

-- the caller's call after its next one, if there is one, begins after this end
abbrev pub BeginsAfter : {C : Type 0} → CallsByCaller C → List ℕ → Option ℕ → ℕ → Type 0
BeginsAfter {C} callers placed end caller = (k : ℕ) (e : Timed C) → slice_get placed caller ≡ Some k → recorded callers caller (k + 1) ≡ Some e → is_over_before end e.begin ≡ true

-- `stepped s caller c` is the state after the caller's call c in the state s, if the flow may give the recorded answer.
-- `may_skip c` says that the call may have done nothing.
-- `Swapped caller other c d s t` says that t is the state s, but that in it the other caller's call d has happened, and in s the caller's call c.
module _ {S C : Type 0} (stepped : S → ℕ → C → Option S) (may_skip : C → Bool) (Swapped : ℕ → ℕ → C → C → S → S → Type 0) where
  -- it does not matter which of two such calls happens first
  pub record KeepSwapped : Type 0 where
    -- between them the calls of others have the same answers
    pub keeps : (s t after : S) (caller other third : ℕ) (c d e : C) → (third ≡ caller → ⊥) → (third ≡ other → ⊥) → Swapped caller other c d s t
        → IsStep stepped may_skip s third e after → (u : S) × IsStep stepped may_skip t third e u × Swapped caller other c d after u
    -- once both have happened, the states are the same
    pub ends : (s t after : S) (caller other : ℕ) (c d : C) → (caller ≡ other → ⊥) → Swapped caller other c d s t
        → IsStep stepped may_skip s other d after → IsStep stepped may_skip t caller c after

  -- if the caller may make its call c in the state s, the other one may make its call d instead
  abbrev pub AreTwins : S → ℕ → ℕ → C → C → Type 0
  AreTwins s caller other c d = (after : S) → IsStep stepped may_skip s caller c after → (instead : S) × IsStep stepped may_skip s other d instead × Swapped caller other c d after instead

  module _ (callers : CallsByCaller C) (s : S) (placed : List ℕ) where
    -- d may be swapped with c, may come next, and ends before c does and before what follows c begins
    abbrev pub IsTwinOf : ℕ → ℕ → Timed C → Timed C → Type 0
    IsTwinOf caller other c d = ((moment : ℕ) × (c.end ≡ Some moment) × (is_over_before d.end moment ≡ true)) × BeginsAfter callers placed d.end caller
        × MayComeNext callers placed d × AreTwins s caller other c.call d.call

    -- the other caller's next call is such a twin of this caller's next call
    abbrev pub IsEarlierTwin : ℕ → ℕ → Type 0
    IsEarlierTwin caller other = (c : Timed C) × (next_call_of callers placed caller ≡ Some c) × ((d : Timed C) × (next_call_of callers placed other ≡ Some d) × IsTwinOf caller other c d)

    -- some caller's next call is an earlier twin of this caller's next call
    abbrev pub HasEarlierTwin : ℕ → Type 0
    HasEarlierTwin caller = (other : ℕ) × IsEarlierTwin caller other
