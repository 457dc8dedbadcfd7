-- The numbers that the names of a script stand for.
use Rattle.std.specs.Prelude.{ℕ, List, [], ◌∷◌, ◌++◌, slice_get, Option, option_and_then}

-- the numbers of the names in the order of introduction; none for a name that stands for no number
pub record Numbers : Type 0 where
  pub emissions : List (Option ℕ)
  pub subscribers : List (Option ℕ)

-- no name was introduced
abbrev pub no_numbers : Numbers
no_numbers = record { emissions = []; subscribers = [] }

-- the number that the name at a place stands for
abbrev pub number_at : ℕ → List (Option ℕ) → Option ℕ
number_at place numbers = option_and_then (λ number. number) (slice_get numbers place)

-- the numbers with one more emission
abbrev pub with_emission : Option ℕ → Numbers → Numbers
with_emission number n = record n { emissions = n.emissions ++ number ∷ [] }

-- the numbers with one more subscriber
abbrev pub with_subscriber : Option ℕ → Numbers → Numbers
with_subscriber number n = record n { subscribers = n.subscribers ++ number ∷ [] }
