-- Texts that contain lines, and what may be around them.
use Rattle.std.proofs.Common.{◌≡◌, ℕ, ◌+◌, ◌<◌, List, [], ◌∷◌, ◌++◌, length, take, get_or, sym, ap, subst, ◌∙◌, append_assoc, append-nil}
use Rattle.std.specs.Borrow.{Bor}
use Rattle.std.proofs.lemmas.List.{map-append, take_more}
use Rattle.script_drawing.specs.Drawing.{TellsInOrder}
use Rattle.script_drawing.specs.Listing.{AddsLast, AddsLines, told}

-- more text may follow
tells-before : (lines : List (List ℕ)) (text more : List ℕ) → TellsInOrder lines text → TellsInOrder lines (text ++ more)
tells-before [] text more tells = tt
tells-before (line ∷ lines) text more (before, after, is, rest) = (
  before,
  after ++ more,
  ap (λ t. t ++ more) is ∙ append_assoc before (line ++ after) more ∙ ap (λ t. before ++ t) (append_assoc line after more),
  tells-before lines after more rest,
)

-- more text may precede
tells-after : (lines : List (List ℕ)) (words text : List ℕ) → TellsInOrder lines text → TellsInOrder lines (words ++ text)
tells-after [] words text tells = tt
tells-after (line ∷ lines) words text (before, after, is, rest) =
    (words ++ before, after, ap (λ t. words ++ t) is ∙ sym (append_assoc words before (line ++ after)), rest)

-- one more line, after some words
tells-last : (lines : List (List ℕ)) (line text words : List ℕ) → TellsInOrder lines text → TellsInOrder (lines ++ line ∷ []) (text ++ (words ++ line))
tells-last [] line text words tells =
    (text ++ words, [], sym (append_assoc text words line) ∙ ap (λ l. (text ++ words) ++ l) (sym (append-nil line)), tt)
tells-last (first ∷ lines) line text words (before, after, is, rest) = (
  before,
  after ++ (words ++ line),
  ap (λ t. t ++ (words ++ line)) is ∙ append_assoc before (first ++ after) (words ++ line) ∙ ap (λ t. before ++ t) (append_assoc first after (words ++ line)),
  tells-last lines line after words rest,
)

told-take : (lines : List (Bor (List ℕ))) (place : ℕ) (spare : Bor (List ℕ)) → place < length lines
    → told (take (place + 1) lines) ≡ told (take place lines) ++ (get_or lines place spare).now ∷ []
told-take lines place spare lt =
    ap told (take_more lines place spare lt) ∙ map-append (λ (l : Bor (List ℕ)). l.now) (take place lines) (get_or lines place spare ∷ [])

-- the listing has one more line
pub adds-more : (lines : List (Bor (List ℕ))) (place : ℕ) (spare : Bor (List ℕ)) (old mid new : List ℕ) → place < length lines → AddsLines (told (take place lines)) old mid
    → AddsLast (get_or lines place spare).now mid new → AddsLines (told (take (place + 1) lines)) old new
adds-more lines place spare old mid new lt (listing, mid_is, tells) (words, new_is) =
    let line = (get_or lines place spare).now in (
      listing ++ (words ++ line),
      new_is ∙ ap (λ t. t ++ (words ++ line)) mid_is ∙ append_assoc old listing (words ++ line),
      subst (λ ls. TellsInOrder ls (listing ++ (words ++ line))) (sym (told-take lines place spare lt)) (tells-last (told (take place lines)) line listing words tells),
    )

-- a listing between two texts contains its lines
tells-between : (lines : List (List ℕ)) (before listing after : List ℕ) → TellsInOrder lines listing → TellsInOrder lines ((before ++ listing) ++ after)
tells-between lines before listing after tells = tells-before lines (before ++ listing) after (tells-after lines before listing tells)

-- what is drawn around a listing contains its lines
pub tells-framed : (lines : List (List ℕ)) (before listing after mid drawn : List ℕ) → AddsLines lines [] listing → mid ≡ before ++ listing → drawn ≡ mid ++ after → TellsInOrder lines drawn
tells-framed lines before listing after mid drawn (added, is, tells) mid_is drawn_is =
    subst (TellsInOrder lines) (sym (drawn_is ∙ ap (λ t. t ++ after) mid_is)) (tells-between lines before listing after (subst (TellsInOrder lines) (sym is) tells))
