-- Which items of the chain's list the hub of a sharing has accepted since the last start. The key fact is `LawTurnAccount`.
use Rattle.std.specs.Prelude.{◌≡◌, ℕ, ◌+◌, ◌-◌, List, [], ◌∷◌, ◌++◌, length, take, Option, Some, None}

module _ {T : Type 0} where
  -- the item that the chain gave and the hub has not accepted, if there is one
  abbrev pub kept_items : Option T → List T
  kept_items None = []
  kept_items (Some x) = x ∷ []

  -- The chain's list begins with the items that the hub accepted. The kept item follows, and then what the chain still has.
  abbrev pub IsAccountOf : List T → Option T → List T → List T → Type 0
  IsAccountOf whole kept rest accepted = whole ≡ accepted ++ (kept_items kept ++ rest)

  -- the length of the chain's list, less the kept item and what the chain still has
  abbrev pub accepted_count : List T → Option T → List T → ℕ
  accepted_count whole kept rest = length whole - (length (kept_items kept) + length rest)

-- the law: `accepted_count` items of the chain's list were accepted, and they are its first ones
abbrev pub LawTurnAccount : Type 0 → Type 0
LawTurnAccount T =
    (whole : List T) (kept : Option T) (rest accepted : List T) → IsAccountOf whole kept rest accepted →
    (length accepted ≡ accepted_count whole kept rest) × (accepted ≡ take (accepted_count whole kept rest) whole)
