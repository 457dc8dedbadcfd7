use Rattle.std.proofs.Common.{◌≡◌, drop, map}
use Rattle.std.specs.List.{list_any}
use Rattle.script_format.specs.Checks.{is_known}
use Rattle.script_format.specs.Names.{lists_of, name_rows}
use Rattle.script_format.proofs.names.Names.is_known.Given as goal

-- a flow that is left has the name if and only if any flow has it
abbrev pub invariant-loop-names : goal.invariant-loop-names
invariant-loop-names l = list_any (is_known l.name) (map lists_of (drop l.names-index l.self.flows.items)) ≡ list_any (is_known l.name) (name_rows l.self)
