-- How a program reports a fault.
use Rattle.std.proofs.Common.{◌≡◌, ◌≢◌, ◌⊎◌, ℕ, Bool, false, List, Option, Err, refl, inl, inr}
use Rattle.script_chain_format.specs.declared.reading.fault.ScriptFault.{ScriptFault}
use Rattle.script_chain_format.specs.declared.reading.fault.ScriptFault.TheVariants.{OutOfMemory, ReadFailed, WriteFailed, NotJson, BadVersion, BadShape, UnknownName, DuplicateName, TooLarge}
use Rattle.flow_script.specs.Playing.{Plays, read_failed}
use Rattle.flow_script.specs.Telling.{IsRefusal, Tells, TellsFault, fault_line, memory_line}

-- a fault that is none of these three refuses the script
pub refusal-is : (fault : ScriptFault) → fault ≢ OutOfMemory → fault ≢ ReadFailed → fault ≢ WriteFailed → IsRefusal fault
refusal-is OutOfMemory memory read write = absurd (memory refl)
refusal-is ReadFailed memory read write = absurd (read refl)
refusal-is WriteFailed memory read write = absurd (write refl)
refusal-is _ memory read write = tt

-- the refusal is reported, or out of memory instead
pub tells-refusal : (fault : ScriptFault) (failed : Bool) (old new : Option (List ℕ)) (answered : ℕ) → IsRefusal fault
    → (Tells failed old new (fault_line fault) 2 answered ⊎ Tells failed old new memory_line 4 answered)
    → (told : ScriptFault) × ((told ≡ fault) ⊎ (IsRefusal fault × (told ≡ OutOfMemory))) × TellsFault told failed old new answered
tells-refusal fault failed old new answered is (inr tells) = (OutOfMemory, inr (is, refl), tells)
tells-refusal OutOfMemory failed old new answered is (inl tells) = absurd is
tells-refusal ReadFailed failed old new answered is (inl tells) = absurd is
tells-refusal WriteFailed failed old new answered is (inl tells) = absurd is
tells-refusal NotJson failed old new answered is (inl tells) = (NotJson, inl refl, tells)
tells-refusal BadVersion failed old new answered is (inl tells) = (BadVersion, inl refl, tells)
tells-refusal (BadShape at) failed old new answered is (inl tells) = (BadShape at, inl refl, tells)
tells-refusal (UnknownName at) failed old new answered is (inl tells) = (UnknownName at, inl refl, tells)
tells-refusal (DuplicateName at) failed old new answered is (inl tells) = (DuplicateName at, inl refl, tells)
tells-refusal (TooLarge at) failed old new answered is (inl tells) = (TooLarge at, inl refl, tells)

-- a refusal may be reported as out of memory
pub memory-plays : (fault : ScriptFault) (known old mid : Option (List ℕ)) → IsRefusal fault → Plays known old mid (Err fault) → Plays known old mid (Err OutOfMemory)
memory-plays OutOfMemory known old mid is plays = absurd is
memory-plays ReadFailed known old mid is plays = absurd is
memory-plays WriteFailed known old mid is plays = absurd is
memory-plays NotJson known old mid is plays = plays.1
memory-plays BadVersion known old mid is plays = plays.1
memory-plays (BadShape at) known old mid is plays = plays.1
memory-plays (UnknownName at) known old mid is plays = plays.1
memory-plays (DuplicateName at) known old mid is plays = plays.1
memory-plays (TooLarge at) known old mid is plays = plays.1

pub not-read : (fault : ScriptFault) → IsRefusal fault → read_failed fault ≡ false
not-read ReadFailed is = absurd is
not-read _ is = refl
