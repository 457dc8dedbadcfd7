use Rattle.std.proofs.Common.{[], take, string_bytes}
use Rattle.record_judging.specs.Verdicts.{read_of, AreLinesAfter}
use Rattle.record_judging.specs.Cursors.{AreAt}
use Rattle.record_judging.proofs.order.order_lines.Given as goal

abbrev pub invariant-loop-caller : goal.invariant-loop-caller
invariant-loop-caller l =
    AreAt (read_of l.sheet) (take l.caller-index l.order) l.cursors.items × AreLinesAfter (read_of l.sheet) [] (take l.caller-index l.order) (string_bytes l.lines)
