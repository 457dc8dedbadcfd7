-- Which emitted values a slow subscriber misses (`BufferOverflow`).
-- Begin with `Lags`: what a subscriber gets, compared with what was emitted since it entered.
use Rattle.std.specs.Prelude.{◌≡◌, ◌≢◌, ◌⊎◌, ℕ, ◌+◌, ◌<◌, List, [], ◌∷◌, ◌++◌, drop, IsSome}
use Rattle.flow_law.specs.declared.config.Config.{Config}
use Rattle.flow_law.specs.declared.config.Overflow.TheVariants.{DropOldest}
use Rattle.flow_law.specs.flow.SharedFlow.{first_state, values, position_of}
use Rattle.flow_law.specs.flow.SharedHistory.{History, IsLegalShared, state_after}
use Rattle.flow_law.specs.flow.Mailbox.{box, began, keep_last}
use Rattle.flow_law.specs.laws.Waiting.{from_flow}

module _ {A : Type 0} where
  -- the first list is the second one with some elements left out
  abbrev pub IsSubsequence : List A → List A → Type 0
  IsSubsequence [] ys = Unit {0}
  IsSubsequence (x ∷ xs) [] = ⊥
  IsSubsequence (x ∷ xs) (y ∷ ys) = ((x ≡ y) × IsSubsequence xs ys) ⊎ IsSubsequence (x ∷ xs) ys

  -- the second list ends with the first one
  abbrev pub IsSuffix : List A → List A → Type 0
  IsSuffix end xs = (front : List A) × (xs ≡ front ++ end)

module _ {T : Type 0} where
  -- the emitted values that u received, and then those that it has still to receive
  abbrev pub delivered_by_flow : ℕ → Config → History T → List T
  delivered_by_flow u config h = from_flow u (first_state config) h ++ box u config h

  -- the values that u found when it entered, and those emitted since
  abbrev pub emitted_since_entry : ℕ → Config → History T → List T
  emitted_since_entry u config h = drop (began u config h).entry (values (state_after config h))

  -- what the subscriber u misses
  pub record Lags (u : ℕ) (config : Config) (h : History T) : Type 0 where
    -- it gets no value twice or out of order
    pub in_order : IsSubsequence (delivered_by_flow u config h) (emitted_since_entry u config h)
    -- it misses none of the last `replay + extra` values
    pub newest : IsSuffix
        (keep_last (config.replay + config.extra) (emitted_since_entry u config h))
        (delivered_by_flow u config h)
    -- it misses none at all if the flow does not drop the oldest and has a buffer
    pub whole : config.overflow ≢ DropOldest → 0 < config.replay + config.extra
        → delivered_by_flow u config h ≡ emitted_since_entry u config h

  -- `Lags` holds of each subscriber after the history
  abbrev pub EachLags : Config → History T → Type 0
  EachLags config h = (u : ℕ) → IsSome (position_of u (state_after config h).subscribers)
      → Lags u config h

-- the law: after every legal history, each subscriber misses no more than `Lags` allows
abbrev pub LawLagged : Type 0 → Type 0
LawLagged T = (config : Config) (h : History T) → IsLegalShared config h → EachLags config h
