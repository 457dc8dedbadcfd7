-- What the program prints beside a script's lines, and its status. Begin with `RunsScript`.
use Rattle.std.specs.Prelude.{◌≡◌, ℕ, Bool, List, Option, Result, codes}
use Rattle.script_chain_format.specs.declared.reading.fault.ScriptFault.{ScriptFault}
use Rattle.flow_script.specs.Lines.{lined}
use Rattle.flow_script.specs.Playing.{Plays, is_read_failed}
use Rattle.flow_script.specs.Telling.{Ends}

-- the line for arguments that are refused
abbrev pub usage_line : List ℕ
usage_line = lined (codes "usage: flow_play [crowd E S N | count T N]")

-- A run without arguments: the outcome of `play` for the bytes of the reader, and how the program then ends. `read_failed` and
-- `write_failed` say whether the reader and the writer failed.
abbrev pub RunsScript : Option (List ℕ) → Bool → Bool → Option (List ℕ) → Option (List ℕ) → ℕ → Type 0
RunsScript known read_failed write_failed old new answered =
    (outcome : Result (Unit {0}) ScriptFault) × (played : Option (List ℕ)) × Plays known old played outcome
    × (read_failed ≡ is_read_failed outcome) × Ends outcome write_failed played new answered
