-- What the program draws or prints, and its status. Begin with `RunsDrawing`.
use Rattle.std.specs.Prelude.{◌≡◌, ℕ, Bool, cond, List, [], ◌∷◌, Option, Some, None, Result, String, codes, string_bytes, bytes_eq}
use Rattle.script_chain_format.specs.declared.reading.fault.ScriptFault.{ScriptFault}
use Rattle.flow_script.specs.Lines.{lined}
use Rattle.flow_script.specs.Playing.{is_read_failed}
use Rattle.flow_script.specs.Telling.{Ends}
use Rattle.script_drawing.specs.declared.form.Form.{Form}
use Rattle.script_drawing.specs.declared.form.Form.TheVariants.{Text, Svg, Explained, Json}
use Rattle.script_drawing.specs.Drawing.{Draws}

-- the line for arguments that are refused
abbrev pub draw_usage_line : List ℕ
draw_usage_line = lined (codes "usage: flow_draw [--text | --explain | --json]")

-- the form that the arguments ask for, which are none, `--text`, `--explain` or `--json`; `None` for any others
abbrev pub form_of : {A : Type 0} → List (String A) → Option Form
form_of [] = Some Svg
form_of (word ∷ []) = cond (bytes_eq (string_bytes word) (codes "--text")) (Some Text) (cond (bytes_eq (string_bytes word) (codes "--explain")) (Some Explained)
    (cond (bytes_eq (string_bytes word) (codes "--json")) (Some Json) None))
form_of _ = None

-- A run that draws: its outcome for the bytes of the reader, and how the program then ends. `read_failed` and `write_failed` say whether
-- the reader and the writer failed.
abbrev pub RunsDrawing : Option (List ℕ) → Bool → Bool → Option (List ℕ) → Option (List ℕ) → ℕ → Type 0
RunsDrawing known read_failed write_failed old new answered =
    (outcome : Result (Unit {0}) ScriptFault) × (drawn : Option (List ℕ)) × Draws known old drawn outcome
    × (read_failed ≡ is_read_failed outcome) × Ends outcome write_failed drawn new answered
