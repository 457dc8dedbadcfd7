use Rattle.std.proofs.Common.{take}
use Rattle.record_judging.specs.SharedRows.{AreSharedCalls}
use Rattle.record_judging.proofs.shared_rows.shared_callers.Given as goal

abbrev pub invariant-loop-calls : goal.invariant-loop-calls
invariant-loop-calls l = AreSharedCalls l.lists (take l.calls-index l.rows) l.callers.items
