-- The subscribers of a shared core as the definitions have them. No public clause cites this module.
use Rattle.std.specs.Prelude.{ℕ, ◌+◌, ◌-◌, ◌<◌, ◌≤◌, ◌^◌, max, Bool, nat_le, List, map, length, Option}
use Rattle.std.specs.List.{list_any}
use Rattle.flow_law.specs.declared.states.Subscriber.{Subscriber}
use Rattle.flow_containers.specs.declared.members.Member.{Member}
use Rattle.flow_containers.specs.declared.members.enroll.Row.{Row}
use Rattle.flow_containers.specs.declared.subscribers.Subscribers.TheInside.{Inside}
use Rattle.flow_containers.specs.PositionCounts.{CountsPositions}

-- what contracts see of the subscribers and of the row of counts
pub record Standing (T : Type 0) : Type 0 where
  -- in the order of their numbers
  pub list : List (Subscriber T)
  -- how many values were emitted
  pub emitted : ℕ
  -- the greatest possible lag
  pub window : ℕ
  -- no position is below it
  pub floor : ℕ
  -- the greatest number that a subscriber has had
  pub last : ℕ
  -- the number of the subscriber at each key, if there is one
  pub by_key : List (Option ℕ)

-- a subscriber is a whole window behind
abbrev pub is_full : {T : Type 0} → ℕ → ℕ → List (Subscriber T) → Bool
is_full window emitted us = list_any (λ u. nat_le window (emitted - u.position)) us

module _ {T A : Type 0} where
  -- a position below the floor is read as the floor
  abbrev pub subscriber_of : ℕ → Member (Row T A) → Subscriber T
  subscriber_of floor member = record { number = member.number; own = member.row.own; position = max member.row.position floor }

  -- the subscribers as the definitions have them, none below the floor
  abbrev pub subscribers_read : ℕ → List (Member (Row T A)) → List (Subscriber T)
  subscribers_read floor = map (subscriber_of floor)

  -- what the subscribers stand for
  abbrev pub standing_of : Inside T A → Standing T
  standing_of s = record {
    list = subscribers_read s.floor s.members.members;
    emitted = s.counts.emitted;
    window = length s.counts.row - 1;
    floor = s.floor;
    last = s.members.last;
    by_key = s.members.by_key;
  }

  pub record AreSound (window : ℕ) (row : List ℕ) (emitted lowest : ℕ) (members : List (Member (Row T A))) (greatest : ℕ) : Type 0 where
    pub some : 0 < window
    -- the row counts the subscribers, and no lag is greater than the window
    pub fits : CountsPositions window emitted row (subscribers_read lowest members)
    pub floor : lowest ≤ emitted + 1 - window
    pub count : length members ≤ greatest
    pub last : greatest < 2 ^ 64

  -- the rows and the counts agree
  abbrev pub RowsAgree : Inside T A → Type 0
  RowsAgree s = AreSound (length s.counts.row - 1) s.counts.row s.counts.emitted s.floor s.members.members s.members.last
