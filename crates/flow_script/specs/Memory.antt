-- The faults that a line reports: all except out of memory, which ends a script.
use Rattle.flow_law.specs.declared.fault.FlowFault.{FlowFault}
use Rattle.flow_law.specs.declared.fault.FlowFault.TheVariants as flow_fault
use Rattle.flow_law.specs.declared.chain.ChainFault.{ChainFault}
use Rattle.flow_law.specs.declared.chain.ChainFault.TheVariants as chain_fault
use Rattle.flow_law.specs.declared.chain.End.{End}
use Rattle.flow_law.specs.declared.chain.End.TheVariants.{Completed, Failed}
use Rattle.flow_law.specs.declared.report.ShareFault.{ShareFault}
use Rattle.flow_law.specs.declared.report.ShareFault.TheVariants.{Chain, Flow}

-- a line reports this fault of a flow
abbrev pub IsToldFlowFault : FlowFault → Type 0
IsToldFlowFault flow_fault.OutOfMemory = ⊥
IsToldFlowFault _ = Unit {0}

-- a line reports this fault of a chain
abbrev pub IsToldChainFault : ChainFault → Type 0
IsToldChainFault chain_fault.OutOfMemory = ⊥
IsToldChainFault _ = Unit {0}

-- a line reports this fault of a sharing
abbrev pub IsToldFault : ShareFault → Type 0
IsToldFault (Flow fault) = IsToldFlowFault fault
IsToldFault (Chain fault) = IsToldChainFault fault
IsToldFault _ = Unit {0}

-- a line reports this end of a chain
abbrev pub IsToldEnd : End → Type 0
IsToldEnd Completed = Unit {0}
IsToldEnd (Failed fault) = IsToldChainFault fault
