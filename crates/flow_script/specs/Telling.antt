-- The lines in which a program reports why a script was not played, and its exit statuses. Begin with `TellsFault`.
use Rattle.std.specs.Prelude.{◌≡◌, ◌++◌, ℕ, Bool, true, false, List, take, Option, Result, Ok, Err, codes, decimal}
use Rattle.std.specs.Io.KnownBytes.{Appends}
use Rattle.script_chain_format.specs.declared.reading.fault.ScriptFault.{ScriptFault}
use Rattle.script_chain_format.specs.declared.reading.fault.ScriptFault.TheVariants.{OutOfMemory, ReadFailed, WriteFailed, NotJson, BadVersion, BadShape, UnknownName, DuplicateName, TooLarge}
use Rattle.flow_script.specs.Lines.{lined}

-- the line for a script that ran out of memory
abbrev pub memory_line : List ℕ
memory_line = lined (codes "out of memory")

-- the line of a fault. A program prints no line for a write that failed
abbrev pub fault_line : ScriptFault → List ℕ
fault_line OutOfMemory = memory_line
fault_line ReadFailed = lined (codes "read failed")
fault_line NotJson = lined (codes "script refused 3 NotJson")
fault_line BadVersion = lined (codes "script refused 4 BadVersion")
fault_line (BadShape step) = lined (codes "script refused 5 BadShape at step " ++ decimal step)
fault_line (UnknownName step) = lined (codes "script refused 6 UnknownName at step " ++ decimal step)
fault_line (DuplicateName step) = lined (codes "script refused 7 DuplicateName at step " ++ decimal step)
fault_line (TooLarge step) = lined (codes "script refused 8 TooLarge at step " ++ decimal step)
fault_line WriteFailed = lined (codes "write failed")

-- 2: the script was refused; 3: a read or a write failed; 4: out of memory
abbrev pub fault_status : ScriptFault → ℕ
fault_status OutOfMemory = 4
fault_status ReadFailed = 3
fault_status WriteFailed = 3
fault_status _ = 2

-- the fault refuses the script itself
abbrev pub IsRefusal : ScriptFault → Type 0
IsRefusal OutOfMemory = ⊥
IsRefusal ReadFailed = ⊥
IsRefusal WriteFailed = ⊥
IsRefusal _ = Unit {0}

-- The line was written, and the status is this one; or the write failed after a first part of it, and the status is 3.
abbrev pub Tells : Bool → Option (List ℕ) → Option (List ℕ) → List ℕ → ℕ → ℕ → Type 0
Tells false old new line status answered = Appends old new line × (answered ≡ status)
Tells true old new line status answered = ((count : ℕ) × Appends old new (take count line)) × (answered ≡ 3)

-- A program reports a fault by its line and its status. After a write that failed nothing more is written.
abbrev pub TellsFault : ScriptFault → Bool → Option (List ℕ) → Option (List ℕ) → ℕ → Type 0
TellsFault WriteFailed failed old new answered = (failed ≡ true) × (new ≡ old) × (answered ≡ 3)
TellsFault fault failed old new answered = Tells failed old new (fault_line fault) (fault_status fault) answered

-- how a program ends, by the result of its script
abbrev pub Ends : Result (Unit {0}) ScriptFault → Bool → Option (List ℕ) → Option (List ℕ) → ℕ → Type 0
Ends (Ok u) failed old new answered = (failed ≡ false) × (new ≡ old) × (answered ≡ 0)
Ends (Err fault) failed old new answered = TellsFault fault failed old new answered
