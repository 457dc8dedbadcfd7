-- Chains of whole numbers that are built at run time: their depths and their runs.
use Rattle.std.specs.Prelude.{◌≡◌, ℕ, ◌+◌, max, ℤ, true}
use Rattle.flow_law.specs.chain.ChainRun.{ChainRun}
use Rattle.flow_law.specs.chain.OperatorRuns.{zip_run}
use Rattle.flow_operators.specs.Behind.{Leaves, AsksLeft, AsksRight}
use Rattle.flow_operators.specs.Kept.{with_kept}
use Rattle.flow_operators.specs.declared.cold.Asked.{Asked}
use Rattle.flow_cold.specs.declared.script_chain.node.Node.{Node, Source, On', Zip'}
use Rattle.flow_cold.specs.Numbers.{joined}
use Rattle.flow_cold.specs.Operators.{operator_whole, stage_rest, IsStageOver}
use Rattle.flow_cold.specs.OperatorAsks.{after_stage}
use Rattle.flow_cold.specs.Pairing.{pairing_rest}
use Rattle.flow_cold.specs.Sources.{source_whole, source_rest, IsSourceOver}

-- the depth of a chain: 1 for a source, one more than its deeper side for an operator
abbrev pub node_depth : Node → ℕ
node_depth (Source source) = 1
node_depth (On' p upstream stage) = node_depth upstream + 1
node_depth (Zip' p left q right pairing) = max (node_depth left) (node_depth right) + 1

-- the whole run of a chain
abbrev pub node_whole : Node → ChainRun ℤ
node_whole (Source source) = source_whole source
node_whole (On' p upstream stage) = operator_whole stage.operator (node_whole upstream)
node_whole (Zip' p left q right pairing) = zip_run (joined pairing.by) (node_whole left) (node_whole right)

-- the rest of a chain's run
abbrev pub node_rest : Node → ChainRun ℤ
node_rest (Source source) = source_rest source
node_rest (On' p upstream stage) = stage_rest stage (node_rest upstream)
node_rest (Zip' p left q right pairing) = pairing_rest pairing (node_rest left) (node_rest right)

-- the chain is over: each ask answers the end and changes nothing, until it is rewound
abbrev pub IsNodeOver : Node → Type 0
IsNodeOver (Source source) = IsSourceOver source
IsNodeOver (On' p upstream stage) = IsStageOver stage
IsNodeOver (Zip' p left q right pairing) = pairing.ended ≡ true

-- what an ask does to the chains behind the last operator: each gives just the entries that the answer needs
abbrev pub NodeAsksBehind : Node → Asked ℤ → Node → Type 0
NodeAsksBehind (On' p upstream stage) result (On' q upstream_after stage_after) = Leaves (after_stage stage (node_rest upstream)) result (node_rest upstream_after)
NodeAsksBehind (Zip' p left q right pairing) result (Zip' r left_after s right_after pairing_after) =
    AsksLeft pairing.kept (node_rest left) result (node_rest left_after)
    × AsksRight (with_kept pairing.kept (node_rest left)) (node_rest right) result (node_rest right_after)
NodeAsksBehind (Source source) result node = Unit {0}
NodeAsksBehind _ result _ = ⊥
