use Rattle.std.proofs.Common.{refl, sym, inl, inr}
use Rattle.script_chain_format.specs.declared.reading.fault.ScriptFault.TheVariants.{OutOfMemory}
use Rattle.flow_calls.proofs.CallLemmas.{refuses}
use Rattle.flow_calls.proofs.giving.give_fault.Goals as goal

pub returns-in-OutOfMemory : goal.returns-in-OutOfMemory
returns-in-OutOfMemory c = (OutOfMemory, inl (sym c.in-OutOfMemory.is), c.give_memory.ensures)

pub returns-in-Err : goal.returns-in-Err
returns-in-Err c = (OutOfMemory, inr (refuses c.args.fault c.requires c.in_default.not-OutOfMemory, refl), c.give_memory-in-Err.ensures)
