-- Turns the numbers, operators and chains of the reader into those of the definitions.
use Rattle.std.specs.Prelude.{◌==◌, ℤ, Bool, false, List, Result, Ok, Err, Vec}
use Rattle.std.specs.declared.alloc.Global.{Global}
use Rattle.flow_law.specs.declared.chain.ChainFault.{ChainFault}
use Rattle.flow_law.specs.chain.ChainRun.{ChainRun}
use Rattle.flow_operators.specs.declared.sources.scripted.Entry.{Entry}
use Rattle.flow_cold.specs.declared.script_chain.op.Source.{Source}
use Rattle.flow_cold.specs.declared.script_chain.op.Op.{Op}
use Rattle.flow_cold.specs.declared.script_chain.op.Op.TheVariants.{Take}
use Rattle.flow_cold.specs.declared.script_chain.ScriptChain.{ScriptChain}
use Rattle.flow_cold.specs.Build.{depth_of, op_depth, op_whole}
use Rattle.flow_cold.specs.Sources.{source_whole}
use Rattle.flow_cold.specs.ScriptChain.{node_whole}
use Rattle.script_chain_format.specs.declared.reading.fault.ScriptFault.{ScriptFault}
use Rattle.script_chain_format.specs.Results.{result_map}
use Rattle.script_chain_format.specs.ChainFormat.{BuiltChain, Build, Operator}

-- numbers that were read, or the fault
abbrev pub numbers_result : Result (Vec ℤ Global) ScriptFault → Result (List ℤ) ScriptFault
numbers_result r = result_map (λ numbers. numbers.items) r

-- entries of a scripted source that were read, or the fault
abbrev pub entries_result : Result (Vec (Entry ℤ) Global) ScriptFault → Result (List (Entry ℤ)) ScriptFault
entries_result r = result_map (λ entries. entries.items) r

-- what a source that was read gives, or the fault
abbrev pub source_result : Result Source ScriptFault → Result (ChainRun ℤ) ScriptFault
source_result r = result_map source_whole r

-- how deep a chain is, and what it gives
abbrev pub built_of : ScriptChain → BuiltChain
built_of chain = record { depth = depth_of chain; run = node_whole chain.node }

-- a chain that was built, or why it was not
abbrev pub build_of : Result ScriptChain ChainFault → Build
build_of (Ok chain) = Ok (built_of chain)
build_of (Err fault) = Err fault

-- whether it is a `take` of no items
abbrev pub takes_none : Op → Bool
takes_none (Take count) = count == 0
takes_none _ = false

-- what an operator does
abbrev pub operator_of : Op → Operator
operator_of o = record { takes_none = takes_none o; depth = op_depth o; run = op_whole o }

-- what an operator does, or why the chain inside it was not built
abbrev pub operator_build : Result Op ChainFault → Result Operator ChainFault
operator_build (Ok o) = Ok (operator_of o)
operator_build (Err fault) = Err fault

-- what an operator that was read does, or the fault
abbrev pub operator_result : Result Op ScriptFault → Result Operator ScriptFault
operator_result r = result_map operator_of r

-- a chain that was read, or the fault
abbrev pub build_result : Result (Result ScriptChain ChainFault) ScriptFault → Result Build ScriptFault
build_result r = result_map build_of r

-- an operator that was read, with the chain inside it, or the fault
abbrev pub operator_build_result : Result (Result Op ChainFault) ScriptFault → Result (Result Operator ChainFault) ScriptFault
operator_build_result r = result_map operator_build r
