use Rattle.std.proofs.Common.{◌≡◌, ◌++◌, string_bytes, take}
use Rattle.flow_script.specs.Lines.{more_items}
use Rattle.flow_script.proofs.lines.add_more_items.Given as goal

abbrev pub invariant-loop-value : goal.invariant-loop-value
invariant-loop-value l = string_bytes l.text ≡ string_bytes l.fn.text ++ more_items (take l.value-index l.values)
