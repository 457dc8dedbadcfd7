-- What each call on a chain keeps of it, whether the call asks the chain or starts it from the beginning.
use Rattle.std.specs.Prelude.{◌≡◌}
use Rattle.flow_operators.specs.declared.cold.Cold.{Ghosts}

-- `new` is still the chain `old`: its closures may be called, it has the readings of `old`, by each of them the same whole run, and it is
-- never refused memory if `old` is not
pub record StaysChain {C T : Type 0} (cold : Ghosts C T) (old new : C) : Type 0 where
  pub callable : cold.CanAsk new
  pub reads : (m : cold.Reading) → cold.Reads old m → cold.Reads new m
  pub whole : (m : cold.Reading) → cold.whole new m ≡ cold.whole old m
  pub lasting : cold.IsGiven old → cold.IsGiven new
