use Rattle.std.proofs.Common.{refl, sym, ap, ◌∙◌, inl}
use Rattle.script_chain_format.specs.declared.reading.fault.ScriptFault.TheVariants.{OutOfMemory, ReadFailed, WriteFailed}
use Rattle.flow_script.specs.Playing.{write_failed}
use Rattle.flow_script.proofs.TellingLemmas.{refusal-is, tells-refusal}
use Rattle.flow_script.proofs.telling.tell_fault.Goals as goal

pub returns-in-WriteFailed : goal.returns-in-WriteFailed
returns-in-WriteFailed g c = (WriteFailed, inl (sym c.in-WriteFailed.is), (c.requires ∙ ap write_failed c.in-WriteFailed.is, refl, refl))

pub returns-in-OutOfMemory : goal.returns-in-OutOfMemory
returns-in-OutOfMemory g c = (OutOfMemory, inl (sym c.in-OutOfMemory.is), c.tell_memory.ensures)

pub returns-in-ReadFailed : goal.returns-in-ReadFailed
returns-in-ReadFailed g c = (ReadFailed, inl (sym c.in-ReadFailed.is), c.tell.ensures)

pub returns-in_default : goal.returns-in_default
returns-in_default g c =
    tells-refusal c.args.fault _ _ _ _ (refusal-is c.args.fault c.in_default.not-OutOfMemory c.in_default.not-ReadFailed c.in_default.not-WriteFailed) c.refuse.ensures
