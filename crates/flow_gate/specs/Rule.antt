-- The rule of the gate's table. Word 0 is 0 while the gate is free, and the one slot has the state then. Otherwise the
-- seat of one token holds the slot.
use Rattle.std.specs.Prelude.{◌≡◌, ◌≢◌, ℕ, true, false, List, [], ◌∷◌, ◌⊎◌, length, slice_index}
use Rattle.std.specs.List.{AllByRecursion}
use mathlib.Core.Option.{some}
use lib.ListN.{get_elem?}
use Rattle.atomic_table.specs.Table.{State}
use Rattle.flow_law.specs.declared.history.HistoryEvent.{HistoryEvent}
use Rattle.flow_law.specs.declared.history.Knowledge.{Knowledge}
use Rattle.flow_law.specs.history.Growth.{Fits, IsApartFrom}
use Rattle.flow_law.specs.history.RealTime.{IsTimed}
use Rattle.flow_gate.specs.declared.view.SeatView.{SeatView}
use Rattle.flow_gate.specs.View.{seat_view}

-- what the a-th token of the i-th view knows
abbrev pub KnownAt : {E : Type 0} → List (SeatView E) → ℕ → ℕ → Knowledge E → Type 0
KnownAt {E} views i a k = (v : SeatView E) × (get_elem? views i ≡ some v) × (get_elem? v.known a ≡ some k)

-- the seat of one token holds the state
abbrev pub IsHeld : {E : Type 0} → List (SeatView E) → Type 0
IsHeld {E} views = (i : ℕ) × (k : Knowledge E) × (get_elem? views i ≡ some (seat_view (k ∷ []) true))

pub record GateHolds {S E : Type 0} (stands : S → List (HistoryEvent E) → Type 0) (s : State S (SeatView E)) : Type 0 where
  -- the one history of the gate
  pub history : List (HistoryEvent E)
  -- each of its calls began before its event, and after its caller's last event
  pub timed : IsTimed history
  pub wide : length s.words ≡ 1
  -- some state stood for the history, also while the gate is taken
  pub sound : (state : S) × stands state history
  pub free : slice_index s.words 0 ≡ 0 → (state : S) × (get_elem? s.homes 0 ≡ some (some state)) × stands state history
  pub nobody : slice_index s.words 0 ≡ 0 → (i : ℕ) (v : SeatView E) → get_elem? s.views i ≡ some v → v.holds ≡ false
  -- while the gate is taken, the seat of one token holds the state: a seat without a token could be dropped unseen
  pub taken : slice_index s.words 0 ≢ 0 → IsHeld s.views
  -- the caller that holds the state has seen all of it
  pub holder : (i : ℕ) (v : SeatView E) → get_elem? s.views i ≡ some v → v.holds ≡ true → AllByRecursion (λ k. k.seen ≡ history) v.known
  pub single : (i j : ℕ) (v w : SeatView E) → get_elem? s.views i ≡ some v → get_elem? s.views j ≡ some w → v.holds ≡ true → w.holds ≡ true → i ≡ j
  -- the history begins with what each token has seen, and keeps each token's rule of names
  pub fits : (i a : ℕ) (k : Knowledge E) → KnownAt s.views i a k → Fits history k
  -- names differ, and each token's rule of names allows the others
  pub apart : (i a j b : ℕ) (k other : Knowledge E) → KnownAt s.views i a k → KnownAt s.views j b other → (i ≢ j) ⊎ (a ≢ b) → IsApartFrom k other
