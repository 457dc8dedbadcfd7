-- What a call gives its caller. Begin with `Fills` and `AnswersText`; `PlaysInto` is the whole of `wumsnair_play`.
use Rattle.std.specs.Prelude.{◌≡◌, ◌⊎◌, ◌≤◌, ◌<◌, ◌==◌, ◌++◌, if◌then◌else◌, not, ℕ, List, [], length, drop, Result, Ok, Err, String}
use Rattle.std.specs.declared.alloc.Global.{Global}
use Rattle.script_chain_format.specs.declared.reading.fault.ScriptFault.{ScriptFault}
use Rattle.script_chain_format.specs.declared.reading.fault.ScriptFault.TheVariants.{OutOfMemory, ReadFailed, WriteFailed}
use Rattle.script_chain_format.specs.Results.{Gives}
use Rattle.flow_script.specs.Playing.{text_result}
use Rattle.flow_script.specs.Telling.{IsRefusal, fault_line, fault_status, memory_line}
use Rattle.record_judging.specs.Verdicts.{TellsVerdict, illegal}
use Rattle.script_drawing.specs.Drawing.{Pictures}

-- ---- buffers

-- the status of a call whose buffer is too short
abbrev pub too_long : ℕ
too_long = 1

-- A text that fits is at the front of the buffer, and the status is this one. If it does not fit, the buffer is as it was, and
-- the status is `too_long`. In both cases `needed` is the length of the text.
abbrev pub Fills : List ℕ → ℕ → List ℕ → List ℕ → ℕ → ℕ → Type 0
Fills text status old new needed answered =
    (needed ≡ length text)
    × (length text ≤ length old → (answered ≡ status) × (new ≡ text ++ drop (length text) old))
    × (length old < length text → (answered ≡ too_long) × (new ≡ old))

-- ---- faults

-- a fault of a script, or out of memory: a call reads no stream and writes none
abbrev pub IsScriptFault : ScriptFault → Type 0
IsScriptFault ReadFailed = ⊥
IsScriptFault WriteFailed = ⊥
IsScriptFault _ = Unit {0}

-- the fault that a call reports: the fault itself, or out of memory if a refusal's line has no memory
abbrev pub ToldAs : ScriptFault → ScriptFault → Type 0
ToldAs fault told = (told ≡ fault) ⊎ (IsRefusal fault × (told ≡ OutOfMemory))

-- ---- results

-- A text is given with status 0. A fault is given as its line, with its status, as the programs print it.
abbrev pub AnswersText : Result (List ℕ) ScriptFault → List ℕ → List ℕ → ℕ → ℕ → Type 0
AnswersText (Ok text) old new needed answered = Fills text 0 old new needed answered
AnswersText (Err fault) old new needed answered =
    (told : ScriptFault) × ToldAs fault told × Fills (fault_line told) (fault_status told) old new needed answered

-- what `wumsnair_play` gives for a script with this meaning: its lines or its refusal
abbrev pub PlaysInto : Result (List ℕ) ScriptFault → List ℕ → List ℕ → ℕ → ℕ → Type 0
PlaysInto meant old new needed answered =
    (given : Result (List ℕ) ScriptFault) × Gives meant given × AnswersText given old new needed answered

-- what `wumsnair_draw` gives for a script with this meaning: a drawing of its lines, or its refusal
abbrev pub DrawsInto : Result (List ℕ) ScriptFault → List ℕ → List ℕ → ℕ → ℕ → Type 0
DrawsInto meant old new needed answered =
    (drawn : Result (String Global) ScriptFault) × Pictures meant drawn × AnswersText (text_result drawn) old new needed answered

-- ---- explanations

-- A script that is not refused gives nothing. A refused one gives some words, with status 2. A call that is out of memory gives nothing,
-- with status 4.
abbrev pub ExplainsText : Result (List ℕ) ScriptFault → List ℕ → List ℕ → ℕ → ℕ → Type 0
ExplainsText (Ok text) old new needed answered = Fills [] 0 old new needed answered
ExplainsText (Err fault) old new needed answered =
    (IsRefusal fault × (words : List ℕ) × Fills words 2 old new needed answered) ⊎ Fills [] 4 old new needed answered

-- what `wumsnair_explain` gives for a script with this meaning: nothing, or an explanation of its refusal
abbrev pub ExplainsInto : Result (List ℕ) ScriptFault → List ℕ → List ℕ → ℕ → ℕ → Type 0
ExplainsInto meant old new needed answered =
    (given : Result (List ℕ) ScriptFault) × Gives meant given × ExplainsText given old new needed answered

-- ---- records

-- the status of a call by that of `flow_judge`: 5 for an illegal record, since 1 is `too_long`
abbrev pub verdict_status : ℕ → ℕ
verdict_status judged = if judged == illegal then 5 else judged

-- The words of the judge are given with the status of their verdict; those on a legal record have an order of its calls only if
-- `with_order` is not 0. A call that is out of memory gives its line.
abbrev pub JudgesInto : ℕ → List ℕ → List ℕ → ℕ → ℕ → Type 0
JudgesInto with_order old new needed answered =
    ((judged : ℕ) × (words : List ℕ) × TellsVerdict (not (with_order == 0)) judged words × Fills words (verdict_status judged) old new needed answered)
    ⊎ Fills memory_line 4 old new needed answered
