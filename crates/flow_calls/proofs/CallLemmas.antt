-- The faults of a script, and how a call reports them. The calls use `script-fault`, `refuses` and `tells-refusal`.
use Rattle.std.proofs.Common.{◌≡◌, ◌≢◌, ℕ, List, Result, Err, refl, sym, subst, ◌∙◌, inl}
use Rattle.script_chain_format.specs.declared.reading.fault.ScriptFault.{ScriptFault}
use Rattle.script_chain_format.specs.declared.reading.fault.ScriptFault.TheVariants.{OutOfMemory, ReadFailed, WriteFailed, NotJson, BadVersion, BadShape, UnknownName, DuplicateName, TooLarge}
use Rattle.script_chain_format.specs.Results.{Gives}
use Rattle.flow_script.specs.Telling.{IsRefusal, fault_line, fault_status}
use Rattle.flow_calls.specs.Calls.{AnswersText, Fills, IsScriptFault}

-- a script is refused only by a script's fault
pub script-fault : {A : Type 0} (meant : Result A ScriptFault) (fault : ScriptFault) → Gives meant (Err fault) → IsScriptFault fault
script-fault meant OutOfMemory gives = tt
script-fault meant ReadFailed gives = absurd gives
script-fault meant WriteFailed gives = absurd gives
script-fault meant NotJson gives = tt
script-fault meant BadVersion gives = tt
script-fault meant (BadShape at) gives = tt
script-fault meant (UnknownName at) gives = tt
script-fault meant (DuplicateName at) gives = tt
script-fault meant (TooLarge at) gives = tt

-- a fault of a script that is not out of memory is a refusal
pub refuses : (fault : ScriptFault) → IsScriptFault fault → fault ≢ OutOfMemory → IsRefusal fault
refuses OutOfMemory of_script not = absurd (not refl)
refuses ReadFailed of_script not = absurd of_script
refuses WriteFailed of_script not = absurd of_script
refuses _ of_script not = tt

-- the status of a refusal
pub refusal-status : (fault : ScriptFault) → IsRefusal fault → fault_status fault ≡ 2
refusal-status OutOfMemory is = absurd is
refusal-status ReadFailed is = absurd is
refusal-status WriteFailed is = absurd is
refusal-status _ is = refl

-- a text that is the line of a refusal, given with status 2, answers it
pub tells-refusal : (fault : ScriptFault) (text old new : List ℕ) (status needed answered : ℕ) → IsRefusal fault → text ≡ fault_line fault → status ≡ 2
    → Fills text status old new needed answered → AnswersText (Err fault) old new needed answered
tells-refusal fault text old new status needed answered is line two fills = (
  fault,
  inl refl,
  subst (λ t. Fills t (fault_status fault) old new needed answered) line
      (subst (λ s. Fills text s old new needed answered) (two ∙ sym (refusal-status fault is)) fills),
)
