-- A script that was read, without its text.
use Rattle.std.specs.Prelude.{Result}
use Rattle.script_chain_format.specs.declared.reading.fault.ScriptFault.{ScriptFault}
use Rattle.script_chain_format.specs.Results.{result_map}
use Rattle.script_format.specs.declared.script.ReadScript.{ReadScript}
use Rattle.script_format.specs.declared.script.Script.{Script}

-- the script alone, or the fault
abbrev pub script_alone : Result ReadScript ScriptFault → Result Script ScriptFault
script_alone r = result_map (λ read. read.script) r
