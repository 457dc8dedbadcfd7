-- The reader's heads, as the definitions have them. No public clause cites this module.
use Rattle.std.specs.Prelude.{List, Result, Vec}
use Rattle.std.specs.Borrow.{Bor}
use Rattle.std.specs.declared.alloc.Global.{Global}
use Rattle.serde_json.specs.Data.{Items}
use Rattle.serde_json.specs.View.{view, items_view}
use Rattle.serde_json.specs.declared.value.Value.{Value}
use Rattle.script_chain_format.specs.declared.reading.fault.ScriptFault.{ScriptFault}
use Rattle.script_format.specs.declared.script.NamedFlow.{NamedFlow}
use Rattle.script_format.specs.declared.script.ScriptFlow.{ScriptFlow}
use Rattle.script_format.specs.declared.read_share.SharedChain.{SharedChain}
use Rattle.script_chain_format.specs.Results.{result_map}
use Rattle.script_format.specs.Actions.{head_of_flow, named_head, heads_of}
use Rattle.script_format.specs.Heads.{Head, NamedHead, SharedParts}

-- the parts that both kinds of shared chains have
abbrev pub shared_parts_of : SharedChain → SharedParts
shared_parts_of shared = record { chain = view shared.chain.now; started = shared.started; limit = shared.limit }

-- those parts, with the value of one more key
abbrev pub parts_with : {N : Type 0} → SharedChain × N → SharedParts × N
parts_with parts = (shared_parts_of parts.0, parts.1)

-- a flow that was read, or the fault
abbrev pub flow_result : Result ScriptFlow ScriptFault → Result Head ScriptFault
flow_result r = result_map head_of_flow r

-- a flow with its name that was read, or the fault
abbrev pub named_flow_result : Result NamedFlow ScriptFault → Result NamedHead ScriptFault
named_flow_result r = result_map named_head r

-- flows that were read, or the fault
abbrev pub flows_result : Result (Vec NamedFlow Global) ScriptFault → Result (List NamedHead) ScriptFault
flows_result r = result_map (λ flows. heads_of flows.items) r

-- a head that was read, with the values of the steps, or the fault
abbrev pub head_result : Result (Vec NamedFlow Global × Bor (Vec Value Global)) ScriptFault → Result (List NamedHead × Items) ScriptFault
head_result r = result_map (λ head. (heads_of head.0.items, items_view head.1.now.items)) r
