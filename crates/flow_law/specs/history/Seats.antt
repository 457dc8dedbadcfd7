-- The tokens in the views that a table has of its seats. `V` is a view, `seats` the tokens in it (none, one, or two that meet),
-- and `knows` what a token knows. Begin with `SeatsFit`: what the rule of a table says of its seats.
use Rattle.std.specs.Prelude.{◌≡◌, ◌≢◌, ◌⊎◌, ℕ, List}
use mathlib.Core.Option.{some}
use lib.ListN.{get_elem?}
use Rattle.flow_law.specs.declared.history.Knowledge.{Knowledge}
use Rattle.flow_law.specs.history.Growth.{IsApartFrom}

-- x is the a-th token of the i-th view
abbrev pub SeatAt : {V X : Type 0} → (V → List X) → List V → ℕ → ℕ → X → Type 0
SeatAt {V} seats views i a x = (v : V) × (get_elem? views i ≡ some v) × (get_elem? (seats v) a ≡ some x)

module _ {V X E : Type 0} (seats : V → List X) (knows : X → Knowledge E) where
  -- the names of any two tokens differ, and each token's rule of names allows the other
  abbrev pub AllApart : List V → Type 0
  AllApart views = (i a j b : ℕ) (x y : X) → SeatAt seats views i a x → SeatAt seats views j b y → (i ≢ j) ⊎ (a ≢ b) → IsApartFrom (knows x) (knows y)

  -- `IsFine` holds of each token, and the tokens are apart
  pub record SeatsFit (IsFine : X → Type 0) (views : List V) : Type 0 where
    pub fine : (i a : ℕ) (x : X) → SeatAt seats views i a x → IsFine x
    pub apart : AllApart views
