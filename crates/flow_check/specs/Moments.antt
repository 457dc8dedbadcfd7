-- What was known of a record at a moment, and when a record goes wrong. Begin with `HasNoOrder` and `HasOrder`.
use Rattle.std.specs.Prelude.{◌≡◌, ℕ, ◌<◌, ◌≤◌, Bool, nat_lt, nat_le, if◌then◌else◌, List, map, filter, Option, Some, None}
use Rattle.flow_check.specs.declared.timed.Timed.{Timed}
use Rattle.flow_check.specs.declared.moments.Cut.{Cut}
use Rattle.flow_check.specs.declared.moments.Cut.TheVariants.{Before, By}
use Rattle.flow_check.specs.declared.verdict.Verdict.{Verdict}
use Rattle.flow_check.specs.declared.verdict.Verdict.TheVariants.{Legal, Illegal, GaveUp}
use Rattle.flow_check.specs.Records.{CallsByCaller, IsWellTimed}

-- the moment is before the cut
abbrev pub is_past : Cut → ℕ → Bool
is_past (Before last) moment = nat_lt moment last
is_past (By last) moment = nat_le moment last

-- the end of a call, if it is past
abbrev pub past_end : Cut → Option ℕ → Option ℕ
past_end cut None = None
past_end cut (Some end) = if is_past cut end then Some end else None

module _ {C : Type 0} where
  -- A call as it was known at the cut: if it was not over, it was pending. If it happens, it has the answer that it got later.
  abbrev pub known_call : Cut → Timed C → Timed C
  known_call cut c = record c { end = past_end cut c.end }

  -- the calls of a caller that had begun at the cut, as they were known
  abbrev pub known_row : Cut → List (Timed C) → List (Timed C)
  known_row cut calls = map (known_call cut) (filter (λ c. is_past cut c.begin) calls)

  -- `known` has what was known of the calls of each caller
  abbrev pub IsKnown : Cut → CallsByCaller C → CallsByCaller C → Type 0
  IsKnown cut callers known = map (λ row. row.items) known ≡ map (λ row. known_row cut row.items) callers

  -- `explains calls order` says that the order explains the calls
  module _ (explains : CallsByCaller C → List ℕ → Type 0) (cut : Cut) (callers : CallsByCaller C) where
    -- some order explains what was known
    abbrev pub HasOrder : Type 0
    HasOrder = (known : CallsByCaller C) × IsKnown cut callers known × ((order : List ℕ) × explains known order)

    -- no order explains what was known
    abbrev pub HasNoOrder : Type 0
    HasNoOrder = (known : CallsByCaller C) × IsKnown cut callers known × ((order : List ℕ) → explains known order → ⊥)

    -- what a verdict on what was known says
    abbrev pub JudgesKnown : Verdict → Type 0
    JudgesKnown (Legal order) = HasOrder
    JudgesKnown Illegal = HasNoOrder
    JudgesKnown GaveUp = Unit {0}

  module _ (explains : CallsByCaller C → List ℕ → Type 0) (moment : ℕ) (callers : CallsByCaller C) where
    -- at each earlier moment some order explains what was known by it
    abbrev pub HasOrdersUntil : Type 0
    HasOrdersUntil = (earlier : ℕ) → earlier < moment → HasOrder explains (By earlier) callers

    -- at this moment and at each later one no order explains what was known by it
    abbrev pub HasNoOrderFrom : Type 0
    HasNoOrderFrom = (later : ℕ) → moment ≤ later → HasNoOrder explains (By later) callers

    -- the calls go wrong at this moment: before it some order explains what was known, and from it on no order does
    pub record GoesWrong : Type 0 where
      pub legal_before : HasOrder explains (Before moment) callers
      pub illegal_by : HasNoOrder explains (By moment) callers
      pub legal_until : HasOrdersUntil
      pub illegal_from : HasNoOrderFrom

  -- if some order explains calls, some order explains what was known of them at any cut
  abbrev pub IsCutOff : (CallsByCaller C → List ℕ → Type 0) → Type 0
  IsCutOff explains =
      (cut : Cut) (callers known : CallsByCaller C) → IsWellTimed callers → IsKnown cut callers known →
      (order : List ℕ) → explains callers order → (part : List ℕ) × explains known part
