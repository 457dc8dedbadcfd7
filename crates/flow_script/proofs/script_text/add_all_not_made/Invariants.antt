use Rattle.std.proofs.Common.{◌≡◌, ◌++◌, map, string_bytes, take}
use Rattle.flow_script.specs.Said.{not_made_of}
use Rattle.flow_script.specs.ScriptMeaning.{not_made_lines}
use Rattle.flow_script.proofs.script_text.add_all_not_made.Given as goal

abbrev pub invariant-loop-flow : goal.invariant-loop-flow
invariant-loop-flow l = string_bytes l.text ≡ string_bytes l.fn.text ++ not_made_lines (map not_made_of (take l.flow-index l.flows))
