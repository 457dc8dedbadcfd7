use Rattle.std.proofs.Common.{◌≡◌, ◌++◌, length}
use denote.Text.{Utf8}
use denote.Shadow.{shadow}
use Rattle.script_drawing.specs.Drawing.{text_lines}
use Rattle.script_drawing.specs.Listing.{told}
use Rattle.script_drawing.proofs.lines.split_lines.Given as goal

abbrev pub invariant-loop-line : goal.invariant-loop-line
invariant-loop-line l = shadow (Utf8 l.rest) × (told l.lines.items ++ text_lines l.rest ≡ text_lines l.fn.text)

abbrev pub decreases-loop-line : goal.decreases-loop-line
decreases-loop-line l = length l.rest
