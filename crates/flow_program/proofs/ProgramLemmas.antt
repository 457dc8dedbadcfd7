-- How the program ends.
use Rattle.std.proofs.Common.{◌≡◌, ◌⊎◌, ℕ, Bool, List, Option, Err, subst, ◌∙◌, inl, inr}
use Rattle.script_chain_format.specs.declared.reading.fault.ScriptFault.{ScriptFault}
use Rattle.script_chain_format.specs.declared.reading.fault.ScriptFault.TheVariants.{OutOfMemory}
use Rattle.flow_script.specs.Playing.{Plays, read_failed}
use Rattle.flow_script.proofs.TellingLemmas.{memory-plays, not-read}
use Rattle.flow_script.specs.Telling.{IsRefusal, TellsFault}
use Rattle.flow_program.specs.Program.{RunsScript}

-- a run that `play` refused
pub runs-refused : (fault told : ScriptFault) (known old mid new : Option (List ℕ)) (reads failed : Bool) (answered : ℕ) → Plays known old mid (Err fault) → reads ≡ read_failed fault
    → ((told ≡ fault) ⊎ (IsRefusal fault × (told ≡ OutOfMemory))) → TellsFault told failed mid new answered → RunsScript known reads failed old new answered
runs-refused fault told known old mid new reads failed answered plays read (inl is) tells =
    (Err fault, mid, plays, read, subst (λ f. TellsFault f failed mid new answered) is tells)
runs-refused fault told known old mid new reads failed answered plays read (inr is) tells =
    (Err OutOfMemory, mid, memory-plays fault known old mid is.0 plays, read ∙ not-read fault is.0, subst (λ f. TellsFault f failed mid new answered) is.1 tells)
