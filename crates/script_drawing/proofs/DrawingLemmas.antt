-- The drawing is that of the script that the reader had.
use Rattle.std.proofs.Common.{◌≡◌, ◌⊎◌, ℕ, ◌≤◌, Bool, List, length, take, Option, Some, None, Result, Ok, Err, sym, subst, ◌∙◌, inl, inr}
use Rattle.std.specs.Prelude.{IfErr, OnOk, OnErr}
use Rattle.std.specs.Io.KnownBytes.{Consumes, Appends, IsAtEnd}
use Rattle.script_chain_format.specs.declared.reading.fault.ScriptFault.{ScriptFault}
use Rattle.script_chain_format.specs.declared.reading.fault.ScriptFault.TheVariants.{OutOfMemory, ReadFailed, WriteFailed, NotJson, BadVersion, BadShape, UnknownName, DuplicateName, TooLarge}
use Rattle.script_chain_format.specs.Results.{Gives}
use Rattle.script_format.specs.Checks.{most_bytes}
use Rattle.flow_script.specs.ScriptMeaning.{script_meaning}
use Rattle.flow_script.specs.Playing.{read_failed}
use Rattle.flow_script.specs.Telling.{IsRefusal, TellsFault}
use Rattle.flow_script.proofs.MeaningLemmas.{same_meaning, plays_refused}
use Rattle.flow_script.proofs.TellingLemmas.{memory-plays, not-read}
use Rattle.script_drawing.specs.Drawing.{Draws, TellsLines}
use Rattle.script_drawing.specs.Program.{RunsDrawing}

-- a script that is refused
pub draws_refused : (known left old : Option (List ℕ)) (bytes : List ℕ) (fault : ScriptFault) → Consumes known left bytes → (length bytes ≤ most_bytes → IsAtEnd left)
    → Gives {A = List ℕ} (script_meaning bytes) (Err fault) → Draws known old old (Err fault)
draws_refused known left old bytes OutOfMemory taken end is = plays_refused known left old bytes OutOfMemory taken end is
draws_refused known left old bytes ReadFailed taken end is = absurd is
draws_refused known left old bytes WriteFailed taken end is = absurd is
draws_refused known left old bytes NotJson taken end is = plays_refused known left old bytes NotJson taken end is
draws_refused known left old bytes BadVersion taken end is = plays_refused known left old bytes BadVersion taken end is
draws_refused known left old bytes (BadShape at) taken end is = plays_refused known left old bytes (BadShape at) taken end is
draws_refused known left old bytes (UnknownName at) taken end is = plays_refused known left old bytes (UnknownName at) taken end is
draws_refused known left old bytes (DuplicateName at) taken end is = plays_refused known left old bytes (DuplicateName at) taken end is
draws_refused known left old bytes (TooLarge at) taken end is = plays_refused known left old bytes (TooLarge at) taken end is

draws_whole : (known left old new : Option (List ℕ)) (bytes text drawn : List ℕ) → Consumes known left bytes → (length bytes ≤ most_bytes → IsAtEnd left)
    → script_meaning bytes ≡ Ok text → TellsLines text drawn → Appends old new drawn → Draws known old new (Ok tt)
draws_whole None left old new bytes text drawn taken end is tells written = tt
draws_whole (Some input) left old new bytes text drawn taken end is tells written = (text, drawn, same_meaning input left bytes taken end ∙ is, tells, written)

draws_front : (known left old new : Option (List ℕ)) (bytes text drawn : List ℕ) (count : ℕ) → Consumes known left bytes → (length bytes ≤ most_bytes → IsAtEnd left)
    → script_meaning bytes ≡ Ok text → TellsLines text drawn → Appends old new (take count drawn) → Draws known old new (Err WriteFailed)
draws_front None left old new bytes text drawn count taken end is tells written = tt
draws_front (Some input) left old new bytes text drawn count taken end is tells written = (text, drawn, count, same_meaning input left bytes taken end ∙ is, tells, written)

-- all of the drawing was written, or a first part of it
pub draws_written : (known left old new : Option (List ℕ)) (bytes text drawn : List ℕ) (r : Result (Unit {0}) ScriptFault) → Consumes known left bytes
    → (length bytes ≤ most_bytes → IsAtEnd left) → script_meaning bytes ≡ Ok text → TellsLines text drawn → OnOk r (Appends old new drawn)
    → OnErr r ((count : ℕ) × Appends old new (take count drawn)) → IfErr r (λ fault. fault ≡ WriteFailed) → Draws known old new r
draws_written known left old new bytes text drawn (Ok u) taken end is tells whole front fault = draws_whole known left old new bytes text drawn taken end is tells whole
draws_written known left old new bytes text drawn (Err f) taken end is tells whole front fault =
    subst (λ f. Draws known old new (Err f)) (sym fault) (draws_front known left old new bytes text drawn front.0 taken end is tells front.1)

-- a refusal may be reported as out of memory
memory-draws : (fault : ScriptFault) (known old mid : Option (List ℕ)) → IsRefusal fault → Draws known old mid (Err fault) → Draws known old mid (Err OutOfMemory)
memory-draws OutOfMemory known old mid is draws = absurd is
memory-draws ReadFailed known old mid is draws = absurd is
memory-draws WriteFailed known old mid is draws = absurd is
memory-draws NotJson known old mid is draws = memory-plays NotJson known old mid is draws
memory-draws BadVersion known old mid is draws = memory-plays BadVersion known old mid is draws
memory-draws (BadShape at) known old mid is draws = memory-plays (BadShape at) known old mid is draws
memory-draws (UnknownName at) known old mid is draws = memory-plays (UnknownName at) known old mid is draws
memory-draws (DuplicateName at) known old mid is draws = memory-plays (DuplicateName at) known old mid is draws
memory-draws (TooLarge at) known old mid is draws = memory-plays (TooLarge at) known old mid is draws

-- a script that was not drawn
pub runs-refused : (fault told : ScriptFault) (known old mid new : Option (List ℕ)) (reads failed : Bool) (answered : ℕ) → Draws known old mid (Err fault) → reads ≡ read_failed fault
    → ((told ≡ fault) ⊎ (IsRefusal fault × (told ≡ OutOfMemory))) → TellsFault told failed mid new answered → RunsDrawing known reads failed old new answered
runs-refused fault told known old mid new reads failed answered draws read (inl is) tells =
    (Err fault, mid, draws, read, subst (λ f. TellsFault f failed mid new answered) is tells)
runs-refused fault told known old mid new reads failed answered draws read (inr is) tells =
    (Err OutOfMemory, mid, memory-draws fault known old mid is.0 draws, read ∙ not-read fault is.0, subst (λ f. TellsFault f failed mid new answered) is.1 tells)
