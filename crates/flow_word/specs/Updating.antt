-- What a caller of a word state has updated. Begin with `HasUpdated`.
use Rattle.std.specs.Prelude.{◌≡◌, ℕ, ℤ, pos}
use Rattle.std.specs.Int.{w64, int_wrapping_add}
use Rattle.flow_law.specs.laws.UpdateCounts.{UpdatesTimes}
use Rattle.flow_word.specs.Handles.{CallerOfWord}

-- From `before` to `after` the caller has made n updates by g, and changed the value in no other way.
pub record HasUpdated {T : Type 0} (g : T → T) (n : ℕ) (before after : CallerOfWord T) : Type 0 where
  pub flow : after.flow ≡ before.flow
  pub updates : UpdatesTimes g n before.token.knows after.token.knows

-- the value plus one, in 64 bits
abbrev pub plus_one : ℤ → ℤ
plus_one value = int_wrapping_add w64 value (pos 1)
