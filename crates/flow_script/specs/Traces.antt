-- The trace of a played script, as the definitions have it. Begin with `trace_result`.
use Rattle.std.specs.Prelude.{List, map, Result}
use Rattle.script_chain_format.specs.declared.reading.fault.ScriptFault.{ScriptFault}
use Rattle.script_chain_format.specs.Results.{result_map}
use Rattle.flow_script.specs.Cases.{Trace}
use Rattle.flow_script.specs.Said.{all_said}
use Rattle.flow_script.specs.declared.case.Case.{Case}
use Rattle.flow_script.specs.declared.trace.Seen.{Seen}
use Rattle.flow_script.specs.declared.trace.Trace.{Trace as Kept}
use Rattle.flow_script.specs.declared.tracing.TracedScript.{TracedScript}

-- the case that a step took
abbrev pub seen_case : Seen → Case
seen_case seen = seen.case

-- a trace: its answers, and the case of each step
abbrev pub trace_seen : Kept → Trace
trace_seen trace = record { answers = all_said trace.answers; cases = map seen_case trace.steps.items }

-- the trace of a script, or the fault
abbrev pub trace_result : Result TracedScript ScriptFault → Result Trace ScriptFault
trace_result r = result_map (λ traced. trace_seen traced.trace) r
