use Rattle.std.proofs.Common.{◌≡◌, ◌+◌, ◌++◌, drop}
use Rattle.serde_json.specs.View.{items_view}
use Rattle.script_chain_format.specs.Results.{result_map}
use Rattle.script_format.specs.Checks.{steps_of, nothing_named}
use Rattle.script_format.specs.Actions.{actions_of, heads_of}
use Rattle.script_format.specs.Names.{name_rows}
use Rattle.script_format.proofs.read.steps_of.Given as goal

-- the steps so far, followed by what is read of the rest, are what is read of all steps
abbrev pub invariant-loop-index : goal.invariant-loop-index
invariant-loop-index l =
    result_map (λ rest. actions_of l.checked.items ++ rest) (steps_of l.version (heads_of l.flows) (l.index + 1) (name_rows l.names) (items_view (drop l.index l.steps)))
    ≡ steps_of l.version (heads_of l.flows) 1 (nothing_named (heads_of l.flows)) (items_view l.steps)
