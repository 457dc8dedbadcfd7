-- What was recorded of the calls of several callers. Begin with `recorded`.
--   caller 0    |--set 1--|        |---value: 2---|
--   caller 1         |-----set 2------|
--   moment      0    1    2        3  4           5
use Rattle.std.specs.Prelude.{◌≡◌, ℕ, ◌+◌, Bool, true, false, ◌==◌, ◌&&◌, ◌||◌, nat_lt, nat_le, List, length, slice_get, Option, Some, None, Vec}
use Rattle.std.specs.declared.alloc.Global.{Global}
use Rattle.flow_check.specs.declared.timed.Timed.{Timed}
use Rattle.flow_check.specs.declared.record.Fault.{Fault}
use Rattle.flow_check.specs.declared.record.FaultKind.{FaultKind}
use Rattle.flow_check.specs.declared.record.FaultKind.TheVariants.{EndsEarly, BeginsEarly}

-- the calls of each caller, in the caller's order
abbrev pub CallsByCaller : Type 0 → Type 0
CallsByCaller C = List (Vec (Timed C) Global)

-- the call of this index in a caller's calls, if there is one
abbrev pub call_in : {C : Type 0} → Option (Vec (Timed C) Global) → ℕ → Option (Timed C)
call_in None k = None
call_in (Some calls) k = slice_get calls.items k

-- a caller's call of this index; indices begin at 0
abbrev pub recorded : {C : Type 0} → CallsByCaller C → ℕ → ℕ → Option (Timed C)
recorded callers caller k = call_in (slice_get callers caller) k

-- A call with this end was over before that moment. A call without an end is pending, so it was not over.
abbrev pub is_over_before : Option ℕ → ℕ → Bool
is_over_before None moment = false
is_over_before (Some end) moment = nat_lt end moment

-- how many calls a caller has
abbrev pub count_in : {C : Type 0} → Option (Vec (Timed C) Global) → ℕ
count_in None = 0
count_in (Some calls) = length calls.items

-- ---- the faults that no record may have

-- a call with this end is over at this moment
abbrev pub is_over_by : Option ℕ → ℕ → Bool
is_over_by None moment = false
is_over_by (Some end) moment = nat_le end moment

-- both calls end at the same moment, or neither ends
abbrev pub is_same_end : Option ℕ → Option ℕ → Bool
is_same_end None None = true
is_same_end (Some one) (Some other) = one == other
is_same_end _ _ = false

-- A caller's call d may follow its call c: c was over when d began, or both have the same moments, as parts of one call do.
abbrev pub may_follow : {C : Type 0} → Timed C → Timed C → Bool
may_follow c d = is_over_by c.end d.begin || ((c.begin == d.begin) && is_same_end c.end d.end)

module _ {C : Type 0} (callers : CallsByCaller C) where
  -- the caller's call of this index does not end before it begins, and its next call may follow it
  abbrev pub IsWellAt : ℕ → ℕ → Type 0
  IsWellAt caller k = (c : Timed C) → recorded callers caller k ≡ Some c
      → (is_over_before c.end c.begin ≡ false) × ((d : Timed C) → recorded callers caller (k + 1) ≡ Some d → may_follow c d ≡ true)

  -- no call ends before it begins, and each call may follow its caller's call before it
  abbrev pub IsWellTimed : Type 0
  IsWellTimed = (caller k : ℕ) → IsWellAt caller k

-- the caller's call of this index has this fault
abbrev pub HasFault : {C : Type 0} → CallsByCaller C → ℕ → ℕ → FaultKind → Type 0
HasFault {C} callers caller index EndsEarly = (c : Timed C) × (recorded callers caller index ≡ Some c) × (is_over_before c.end c.begin ≡ true)
HasFault {C} callers caller index BeginsEarly =
    (k : ℕ) × ((c : Timed C) × ((d : Timed C) × (index ≡ k + 1) × (recorded callers caller k ≡ Some c) × (recorded callers caller index ≡ Some d) × (may_follow c d ≡ false)))

-- the record has this fault, at this call
abbrev pub IsFaultOf : {C : Type 0} → CallsByCaller C → Fault → Type 0
IsFaultOf callers fault = HasFault callers fault.caller fault.index fault.kind
