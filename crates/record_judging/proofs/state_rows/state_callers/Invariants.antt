use Rattle.std.proofs.Common.{take}
use Rattle.record_judging.specs.StateRows.{AreStateCalls}
use Rattle.record_judging.proofs.state_rows.state_callers.Given as goal

abbrev pub invariant-loop-calls : goal.invariant-loop-calls
invariant-loop-calls l = AreStateCalls l.lists (take l.calls-index l.rows) l.callers.items
