-- A row of counts: how many subscribers are at each position. No public clause cites this module.
use Rattle.std.specs.Prelude.{◌≡◌, ℕ, ◌+◌, ◌-◌, ◌<◌, ◌≤◌, ◌%◌, ◌==◌, [], ◌∷◌, List, length, get_or, set, suc, if◌then◌else◌}
use Rattle.flow_law.specs.declared.states.Subscriber.{Subscriber}
use Rattle.flow_containers.specs.declared.position_counts.PositionCounts.TheInside.{Inside}

-- a row of counts, and the last position
pub record Counted : Type 0 where
  pub row : List ℕ
  pub emitted : ℕ

-- the row and the number of values emitted, without the representation
abbrev pub counted_of : {A : Type 0} → Inside A → Counted
counted_of c = record { row = c.row.items; emitted = c.emitted }

-- the end is the place of the last position
pub record IsPlaced {A : Type 0} (c : Inside A) : Type 0 where
  pub within : c.end < length c.row.items
  pub end : c.end ≡ c.emitted % length c.row.items

-- the least position from `start` on that has a subscriber, or `first`
pub record IsLeast (row : List ℕ) (start first least : ℕ) : Type 0 where
  pub from : start ≤ least
  pub to : least ≤ first
  pub before : (p : ℕ) → start ≤ p → p < least → get_or row (p % length row) 0 ≡ 0
  pub here : least < first → 0 < get_or row (least % length row) 0

-- the row with one more subscriber at position p
abbrev pub one_more_at : List ℕ → ℕ → List ℕ
one_more_at row p = set row (p % length row) (get_or row (p % length row) 0 + 1)

-- the row with one subscriber less at position p
abbrev pub one_less_at : List ℕ → ℕ → List ℕ
one_less_at row p = set row (p % length row) (get_or row (p % length row) 0 - 1)

module _ {T : Type 0} where
  -- every position is one of the last w + 1
  abbrev pub AreWithin : ℕ → ℕ → List (Subscriber T) → Type 0
  AreWithin w emitted [] = Unit {0}
  AreWithin w emitted (u ∷ us) = (u.position ≤ emitted) × (emitted ≤ u.position + w) × AreWithin w emitted us

  -- the number of subscribers whose position has the remainder r by n
  abbrev pub count_of : ℕ → ℕ → List (Subscriber T) → ℕ
  count_of n r [] = 0
  count_of n r (u ∷ us) = if (u.position % n) == r then suc (count_of n r us) else count_of n r us

  -- the row counts the subscribers by their positions
  pub record CountsPositions (w emitted : ℕ) (row : List ℕ) (us : List (Subscriber T)) : Type 0 where
    pub long : length row ≡ w + 1
    pub counts : (r : ℕ) → r < w + 1 → get_or row r 0 ≡ count_of (w + 1) r us
    pub window : AreWithin w emitted us

  -- the subscribers without the first one of this number
  abbrev pub take_subscriber_out : ℕ → List (Subscriber T) → List (Subscriber T)
  take_subscriber_out number [] = []
  take_subscriber_out number (u ∷ us) = if u.number == number then us else u ∷ take_subscriber_out number us
