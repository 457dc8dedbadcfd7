-- What follows for a script's meaning from how it was read, or played on one thread.
use Rattle.std.specs.Prelude.{◌≡◌, ℕ, List, Result, Ok, Err, false}
use Rattle.std.proofs.Common.{refl, ap}
use Rattle.script_chain_format.specs.Results.{Gives, result_map}
use Rattle.script_chain_format.specs.declared.reading.fault.ScriptFault.{ScriptFault}
use Rattle.script_chain_format.specs.declared.reading.fault.ScriptFault.TheVariants.{OutOfMemory, ReadFailed, WriteFailed, NotJson, BadVersion, BadShape, UnknownName, DuplicateName, TooLarge}
use Rattle.script_chain_format.proofs.ResultLemmas.{gives_err}
use Rattle.script_format.specs.Checks.{Checked, read_script}
use Rattle.flow_script.specs.Playing.{write_failed}
use Rattle.flow_script.specs.ScriptMeaning.{Answers, answered, answers_of, script_meaning, text_of}
use Rattle.script_over.specs.Over.{IsPlayable, RefusesAlike}

-- the answers of a script that was read
abbrev answers-of : Checked → Answers
answers-of script = answers_of script.flows script.steps

not-written : (m : Result (List ℕ) ScriptFault) (fault : ScriptFault) → Gives m (Err fault) → write_failed fault ≡ false
not-written m OutOfMemory is = refl
not-written m ReadFailed is = absurd is
not-written m WriteFailed is = absurd is
not-written m NotJson is = refl
not-written m BadVersion is = refl
not-written m (BadShape at) is = refl
not-written m (UnknownName at) is = refl
not-written m (DuplicateName at) is = refl
not-written m (TooLarge at) is = refl

-- a script whose meaning is a fault is refused
pub refuses_meant : (bytes : List ℕ) (fault : ScriptFault) → Gives (script_meaning bytes) (Err fault) → RefusesAlike bytes fault
refuses_meant bytes fault is = (is, not-written (script_meaning bytes) fault is)

-- a script that is not read is refused
pub refuses_read : (bytes : List ℕ) (fault : ScriptFault) → Gives (read_script bytes) (Err fault) → RefusesAlike bytes fault
refuses_read bytes fault is = refuses_meant bytes fault
    (gives_err (read_script bytes) (script_meaning bytes) fault is (λ f e. ap (λ r. result_map text_of (result_map answers-of r)) e))

-- a script that is read is played
pub playable_read : (bytes : List ℕ) (script : Checked) → read_script bytes ≡ Ok script → IsPlayable bytes
playable_read bytes script e = (text_of (answers-of script), ap (λ r. result_map text_of (result_map answers-of r)) e)

-- a script that has no answers is refused
pub refuses_answered : (bytes : List ℕ) (fault : ScriptFault) → Gives (answered bytes) (Err fault) → RefusesAlike bytes fault
refuses_answered bytes fault is = refuses_meant bytes fault
    (gives_err (answered bytes) (script_meaning bytes) fault is (λ f e. ap (result_map text_of) e))

-- a script that has answers is played
pub playable_answered : (bytes : List ℕ) (answers : Answers) → answered bytes ≡ Ok answers → IsPlayable bytes
playable_answered bytes answers e = (text_of answers, ap (result_map text_of) e)
