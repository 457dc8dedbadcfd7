-- The flow that `share_in` makes.
use Rattle.std.specs.Prelude.{ℕ, ◌-◌, max}
use Rattle.flow_law.specs.declared.config.Config.{Config}
use Rattle.flow_law.specs.declared.config.Overflow.TheVariants.{Suspend}

-- the flow replays `replay` values, and buffers the greater of `replay` and 64
abbrev pub share_config : ℕ → ℕ → Config
share_config replay limit = record { replay = replay; extra = max replay 64 - replay; overflow = Suspend; limit = limit }
