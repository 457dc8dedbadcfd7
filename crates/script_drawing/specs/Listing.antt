-- What the listing of a script's lines adds to a text.
use Rattle.std.specs.Prelude.{◌≡◌, ◌++◌, ℕ, List, map}
use Rattle.std.specs.Borrow.{Bor}
use Rattle.script_drawing.specs.Drawing.{TellsInOrder}

-- the lines that borrows refer to
abbrev pub told : List (Bor (List ℕ)) → List (List ℕ)
told lines = map (λ line. line.now) lines

-- the text gains a line, after some words
abbrev pub AddsLast : List ℕ → List ℕ → List ℕ → Type 0
AddsLast line old new = (words : List ℕ) × (new ≡ old ++ (words ++ line))

-- the text gains a part that contains these lines
abbrev pub AddsLines : List (List ℕ) → List ℕ → List ℕ → Type 0
AddsLines lines old new = (listing : List ℕ) × (new ≡ old ++ listing) × TellsInOrder lines listing
