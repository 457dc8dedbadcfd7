-- How the bytes that a run reads and writes relate to a script's meaning.
-- Begin with `Plays`.
use Rattle.std.specs.Prelude.{◌≡◌, ◌⊎◌, ◌≤◌, ◌+◌, ℕ, Bool, true, false, not, ◌&&◌, ◌==◌, List, length, take, Option, Result, Ok, Err, IfSome, String, string_bytes}
use Rattle.std.specs.declared.alloc.Global.{Global}
use Rattle.std.specs.Io.KnownBytes.{Appends, Keeps, Consumes}
use Rattle.script_chain_format.specs.declared.reading.fault.ScriptFault.{ScriptFault}
use Rattle.script_chain_format.specs.declared.reading.fault.ScriptFault.TheVariants.{OutOfMemory, ReadFailed, WriteFailed, NotJson, BadVersion, BadShape, UnknownName, DuplicateName, TooLarge}
use Rattle.script_chain_format.specs.Results.{result_map}
use Rattle.script_format.specs.Checks.{most_bytes}
use Rattle.flow_script.specs.declared.answer.Answers.{Answers as Kept}
use Rattle.flow_script.specs.Said.{all_said}
use Rattle.flow_script.specs.ScriptMeaning.{Answers, script_meaning}

-- ---- readers and writers that failed

-- whether a write failed, or took none of some bytes
abbrev pub took_none : {E : Type 0} → Result ℕ E → List ℕ → Bool
took_none (Ok count) bytes = (count == 0) && not (length bytes == 0)
took_none (Err e) bytes = true

-- why reading failed: out of memory, or a fault of the reader
abbrev pub IsReadFault : ScriptFault → Type 0
IsReadFault fault = (fault ≡ OutOfMemory) ⊎ (fault ≡ ReadFailed)

-- whether the fault is that the reader failed
abbrev pub read_failed : ScriptFault → Bool
read_failed ReadFailed = true
read_failed _ = false

-- whether the result is that the reader failed
abbrev pub is_read_failed : {A : Type 0} → Result A ScriptFault → Bool
is_read_failed (Ok a) = false
is_read_failed (Err fault) = read_failed fault

-- whether the fault is that the writer failed
abbrev pub write_failed : ScriptFault → Bool
write_failed WriteFailed = true
write_failed _ = false

-- whether the result is that the writer failed
abbrev pub is_write_failed : {A : Type 0} → Result A ScriptFault → Bool
is_write_failed (Ok a) = false
is_write_failed (Err fault) = write_failed fault

-- ---- runs

-- the bytes of a text, or the fault
abbrev pub text_result : Result (String Global) ScriptFault → Result (List ℕ) ScriptFault
text_result r = result_map string_bytes r

-- the answers as the definitions have them, or the fault
abbrev pub answers_result : Result Kept ScriptFault → Result Answers ScriptFault
answers_result r = result_map all_said r

-- the bytes taken from the reader are at most one more than a script may have
abbrev pub TakesWithin : Option (List ℕ) → Option (List ℕ) → Type 0
TakesWithin old new = (taken : List ℕ) × Consumes old new taken × (length taken ≤ most_bytes + 1)

-- this fault refuses the reader's bytes, if they are known
abbrev pub RefusesBytes : Option (List ℕ) → ScriptFault → Type 0
RefusesBytes known fault = IfSome known (λ bytes. script_meaning bytes ≡ Err fault)

-- If the reader's bytes are known, a run that ends well has written their meaning, and a fault of the script is that of their meaning.
-- After a write that failed, a first part of that text is written; after any other fault nothing is.
abbrev pub Plays : Option (List ℕ) → Option (List ℕ) → Option (List ℕ) → Result (Unit {0}) ScriptFault → Type 0
Plays known old new (Ok u) = IfSome known (λ bytes. (text : List ℕ) × (script_meaning bytes ≡ Ok text) × Appends old new text)
Plays known old new (Err WriteFailed) =
    IfSome known (λ bytes. (text : List ℕ) × (count : ℕ) × (script_meaning bytes ≡ Ok text) × Appends old new (take count text))
Plays known old new (Err OutOfMemory) = Keeps old new
Plays known old new (Err ReadFailed) = Keeps old new
Plays known old new (Err NotJson) = RefusesBytes known NotJson × Keeps old new
Plays known old new (Err BadVersion) = RefusesBytes known BadVersion × Keeps old new
Plays known old new (Err (BadShape at)) = RefusesBytes known (BadShape at) × Keeps old new
Plays known old new (Err (UnknownName at)) = RefusesBytes known (UnknownName at) × Keeps old new
Plays known old new (Err (DuplicateName at)) = RefusesBytes known (DuplicateName at) × Keeps old new
Plays known old new (Err (TooLarge at)) = RefusesBytes known (TooLarge at) × Keeps old new
