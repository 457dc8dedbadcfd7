-- Histories whose calls began in time, and some whose calls did not.
use Rattle.std.proofs.Common.{◌≢◌, ℕ, ◌<◌, ◌≤◌, List, [], ◌∷◌, refl, arith}
use Rattle.flow_law.specs.declared.history.HistoryEvent.{HistoryEvent}
use Rattle.flow_law.specs.history.Growth.{event}
use Rattle.flow_law.specs.history.RealTime.{IsTimed, WasThere}

-- four callers: the call of 10 was over when those of 12 and 13 began, and those of 11, 12 and 13 overlapped in part
abbrev four_calls : List (HistoryEvent ℕ)
four_calls = event [] 0 10 ∷ event (1 ∷ []) 0 11 ∷ event (2 ∷ []) 2 12 ∷ event (3 ∷ []) 1 13 ∷ []

is_timed : IsTimed four_calls
is_timed = (
  (omega arith, tt),
  ((omega arith, ((λ e. cc), tt)), ((omega arith, tt), ((omega arith, ((λ e. cc), ((λ e. cc), tt))), tt))),
)

-- the event of 10 was there when the call of 12 began, and that of 11 when the call of 13 began was not
first_was_there : WasThere {E = ℕ} 0 (event (2 ∷ []) 2 12)
first_was_there = omega arith

second_was_not : WasThere {E = ℕ} 1 (event (3 ∷ []) 1 13) → ⊥
second_was_not was = omega arith

-- no event comes before its call began
event_before_its_call : IsTimed {E = ℕ} (event [] 1 10 ∷ []) → ⊥
event_before_its_call t = let l = t.0.0 in omega arith

-- no token makes two calls at once
two_calls_at_once : IsTimed {E = ℕ} (event [] 0 10 ∷ event [] 0 11 ∷ []) → ⊥
two_calls_at_once t = t.1.0.1.0 refl
