use Rattle.std.proofs.Common.{◌≡◌, Result, List}
use Rattle.serde_json.specs.View.{members_view}
use Rattle.script_chain_format.specs.declared.reading.fault.ScriptFault.{ScriptFault}
use Rattle.script_chain_format.specs.Results.{Gives}
use Rattle.script_format.specs.Flows.{flows_after, named_flows}
use Rattle.script_format.specs.Heads.{NamedHead}
use Rattle.script_format.specs.HeadViews.{flows_result}
use Rattle.script_format.proofs.read_flows.named_flows.Given as goal

-- the flows that are left make the whole from the flows so far
abbrev pub invariant-loop-name : goal.invariant-loop-name
invariant-loop-name l =
    (m : Result (List NamedHead) ScriptFault) × Gives m (flows_result l.flows)
    × (flows_after m (members_view l.name-iterator) ≡ named_flows (members_view l.members.entries))
