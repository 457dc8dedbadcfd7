use Rattle.std.proofs.Common.{◌≡◌, ◌+◌, ◌-◌, ◌*◌, drop, Result}
use Rattle.serde_json.specs.View.{view, items_view}
use Rattle.script_chain_format.specs.declared.reading.fault.ScriptFault.{ScriptFault}
use Rattle.script_chain_format.specs.Results.{Gives}
use Rattle.script_chain_format.specs.ChainFormat.{Build, ops_on, operator_at, chain_at}
use Rattle.script_chain_format.specs.Chains.{build_result}
use Rattle.script_chain_format.proofs.read_chain.+chain.Given as goal

-- the operators that are left make the chain from what the operators so far have made
abbrev pub invariant-chain_at-loop-op : goal.invariant-chain_at-loop-op
invariant-chain_at-loop-op l =
    (m : Result Build ScriptFault) × Gives m (build_result l.build)
    × (ops_on (operator_at l.version (l.levels - 1) l.at) m (items_view (drop l.op-index l.op-items)) ≡ chain_at l.version l.levels l.at (view l.chain))

abbrev pub decreases-chain_at : goal.decreases-chain_at
decreases-chain_at l = 2 * l.levels

abbrev pub decreases-operator_at : goal.decreases-operator_at
decreases-operator_at l = 2 * l.levels + 1
