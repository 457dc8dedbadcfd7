use Rattle.std.proofs.Common.{inr}
use Rattle.flow_calls.proofs.wumsnair_check.Goals as goal

pub returns : goal.returns
returns c = inr c.give_memory.ensures
