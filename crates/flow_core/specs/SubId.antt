-- The number of a subscription.
use Rattle.std.specs.Prelude.{ℕ}
use Rattle.flow_core.specs.declared.sub_id.SubId.{SubId}

-- the number of a subscription
abbrev pub number_of : SubId → ℕ
number_of id = id.number
