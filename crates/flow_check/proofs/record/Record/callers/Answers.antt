use Rattle.std.proofs.Common.{subst}
use Rattle.flow_check.specs.Records.{IsWellTimed}
use Rattle.flow_check.proofs.record.Record.callers.Goals as goal

pub returns-clause-well : goal.returns-clause-well
returns-clause-well g c = subst IsWellTimed c.self.view_is c.self.invariant
