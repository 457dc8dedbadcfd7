-- What is drawn of a script. Begin with `Pictures` and `Draws`.
use Rattle.std.specs.Prelude.{◌≡◌, ◌==◌, ◌++◌, ℕ, List, [], ◌∷◌, take, Option, IfSome, Result, Ok, Err, String, string_bytes}
use Rattle.std.specs.List.{slice_split}
use Rattle.std.specs.Io.KnownBytes.{Appends}
use Rattle.std.specs.declared.alloc.Global.{Global}
use Rattle.script_chain_format.specs.declared.reading.fault.ScriptFault.{ScriptFault}
use Rattle.script_chain_format.specs.declared.reading.fault.ScriptFault.TheVariants.{WriteFailed}
use Rattle.script_chain_format.specs.Results.{Gives}
use Rattle.flow_script.specs.ScriptMeaning.{script_meaning}
use Rattle.flow_script.specs.Playing.{Plays}

-- ---- lines

-- the parts of a text between its line feeds
abbrev pub text_lines : List ℕ → List (List ℕ)
text_lines text = slice_split (λ byte. byte == 10) text

-- the text contains these lines, one after the other
abbrev pub TellsInOrder : List (List ℕ) → List ℕ → Type 0
TellsInOrder [] text = Unit {0}
TellsInOrder (line ∷ more) text = (before : List ℕ) × (after : List ℕ) × (text ≡ before ++ (line ++ after)) × TellsInOrder more after

-- what is drawn contains each line of the text that a script writes, in order
abbrev pub TellsLines : List ℕ → List ℕ → Type 0
TellsLines text drawn = TellsInOrder (text_lines text) drawn

-- ---- pictures

-- The drawing of a script that writes a text contains its lines. Any script may fail out of memory; every other fault is the one with which
-- the script is refused.
abbrev pub Pictures : Result (List ℕ) ScriptFault → Result (String Global) ScriptFault → Type 0
Pictures meant (Ok drawn) = (text : List ℕ) × (meant ≡ Ok text) × TellsLines text (string_bytes drawn)
Pictures meant (Err fault) = Gives {A = List ℕ} meant (Err fault)

-- If the reader's bytes are known, a run that ends well has written a drawing that contains the lines of the script. After a write that
-- failed, a first part of one is written. A script is refused as the player refuses it.
abbrev pub Draws : Option (List ℕ) → Option (List ℕ) → Option (List ℕ) → Result (Unit {0}) ScriptFault → Type 0
Draws known old new (Ok u) =
    IfSome known (λ bytes. (text : List ℕ) × (drawn : List ℕ) × (script_meaning bytes ≡ Ok text) × TellsLines text drawn × Appends old new drawn)
Draws known old new (Err WriteFailed) =
    IfSome known (λ bytes. (text : List ℕ) × (drawn : List ℕ) × (count : ℕ) × (script_meaning bytes ≡ Ok text) × TellsLines text drawn
    × Appends old new (take count drawn))
Draws known old new (Err fault) = Plays known old new (Err fault)
