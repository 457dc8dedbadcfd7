-- What an operator of a script becomes: an operator on one upstream, or a zip with another chain.
use Rattle.std.specs.Prelude.{ℕ, ◌+◌, max, ℤ}
use Rattle.flow_law.specs.chain.ChainRun.{ChainRun}
use Rattle.flow_law.specs.chain.OperatorRuns.{zip_run}
use Rattle.flow_cold.specs.declared.script_chain.build.Part.{Part}
use Rattle.flow_cold.specs.declared.script_chain.build.Part.TheVariants.{On, With}
use Rattle.flow_cold.specs.Numbers.{joined}
use Rattle.flow_cold.specs.Operators.{first_phase, operator_whole, rest_in}
use Rattle.flow_cold.specs.ScriptChain.{node_whole, node_rest}

-- the whole run of the part on this run
abbrev pub part_whole : Part → ChainRun ℤ → ChainRun ℤ
part_whole (On operator) r = operator_whole operator r
part_whole (With chain by) r = zip_run (joined by) r (node_whole chain.node)

-- the rest of the part, before it is asked, on this rest of the upstream
abbrev pub part_rest : Part → ChainRun ℤ → ChainRun ℤ
part_rest (On operator) r = rest_in (first_phase operator) operator r
part_rest (With chain by) r = zip_run (joined by) r (node_rest chain.node)

-- the depth with the part on a chain of this depth
abbrev pub part_depth : Part → ℕ → ℕ
part_depth (On operator) depth = depth + 1
part_depth (With chain by) depth = max depth chain.depth + 1
