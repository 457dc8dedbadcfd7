use Rattle.std.proofs.Common.{◌≡◌, ◌+◌, ◌-◌, ◌*◌, ◌++◌, length, string_bytes}
use Rattle.flow_program.specs.CrowdLines.{subscriber_lines}
use Rattle.flow_program.proofs.crowd_lines.add_subscribers.Given as goal

abbrev pub invariant-loop-index : goal.invariant-loop-index
invariant-loop-index l =
    string_bytes l.text ++ subscriber_lines (l.index + 1) (length l.got - l.index) (l.fn.size.emitters * l.fn.size.values)
    ≡ string_bytes l.fn.text ++ subscriber_lines 1 (length l.got) (l.fn.size.emitters * l.fn.size.values)
