-- The list that a chain of chains gives (src/chains/products.rt).
use Rattle.std.specs.Prelude.{ℕ, ℤ, pos, ◌*ℤ◌, List, [], ◌∷◌}
use Rattle.std.specs.List.{flat_map}
use Rattle.flow_operators.specs.Sources.{count_up}

-- 1, 2 and 3 times x
abbrev pub multiples : ℤ → List ℤ
multiples x = (x *ℤ pos 1) ∷ (x *ℤ pos 2) ∷ (x *ℤ pos 3) ∷ []

-- the multiples of each x from 1 to n
abbrev pub products : ℕ → List ℤ
products n = flat_map multiples (count_up (pos 1) n)
