-- How many items a `Take` may still emit.
use Rattle.std.specs.Prelude.{ℕ, ◌-◌}
use Rattle.flow_operators.specs.declared.cold.Asked.{Asked}
use Rattle.flow_operators.specs.declared.cold.Asked.TheVariants.{Item}
use Rattle.flow_operators.specs.declared.operators.take.Take.{Take}

-- how many items it may still emit
abbrev pub items_left : {C : Type 0} → Take C → ℕ
items_left take = take.left

-- one item fewer is left after an item
abbrev pub left_after : {T : Type 0} → Asked T → ℕ → ℕ
left_after (Item x) left = left - 1
left_after _ left = left
