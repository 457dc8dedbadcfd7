use Rattle.std.proofs.Common.{drop, map}
use Rattle.flow_check.specs.Remaining.{GoesThrough, none_placed}
use Rattle.flow_check.proofs.Parts.{caller_of}
use Rattle.flow_check.proofs.replaying.goes_through.Given as goal

abbrev pub invariant-loop-turn : goal.invariant-loop-turn
invariant-loop-turn g l =
    GoesThrough g.M.Machine.stepped g.M.Machine.may_skip l.callers l.state l.placed.items (map caller_of (drop l.turn-index l.order))
    → GoesThrough g.M.Machine.stepped g.M.Machine.may_skip l.callers l.fn.first (none_placed l.callers) (map caller_of l.order)
