-- A text that is cut at its line feeds.
use Rattle.std.proofs.Common.{arith, lit<, ◌≡◌, ◌≢◌, ◌==◌, ℕ, List, [], ◌∷◌, ◌++◌, Some, None, get_or, sym, ap, ◌∙◌, append_assoc}
use Rattle.std.specs.Borrow.{Bor}
use Rattle.std.specs.List.{after_first}
use Rattle.std.proofs.lemmas.Bool.Decides.{nat_tests}
use Rattle.std.proofs.lemmas.Grind.{get_or_default_zero}
use Rattle.std.proofs.lemmas.List.{map-append}
use Rattle.std.proofs.lemmas.List.Splits.{slice_split_none, slice_split_first}
use Rattle.std.proofs.lemmas.Str.Pattern.{IsSplitOnceResult, split_once_first, split_parts}
use Rattle.script_drawing.specs.Drawing.{text_lines}
use Rattle.script_drawing.specs.Listing.{told}

lines-cut : (text : List ℕ) (line more : Bor (List ℕ)) → IsSplitOnceResult 10 text (Some (line, more)) → text_lines text ≡ line.now ∷ text_lines more.now
lines-cut text line more split =
    let first = split_once_first 10 text (Some (line, more)) split (lit< tt) in
    slice_split_first (λ byte. byte == 10) text 0 first.0
    ∙ ap (λ (l : List ℕ). l ∷ text_lines (after_first (λ byte. byte == 10) text)) (sym first.1)
    ∙ ap (λ (l : List ℕ). line.now ∷ text_lines l) (sym first.2)

lines-whole : (text : List ℕ) → IsSplitOnceResult 10 text None → text_lines text ≡ text ∷ []
lines-whole text split =
    let lacks = split_parts 10 text None split (lit< tt) in
    slice_split_none (λ byte. byte == 10) text
    (λ k d lt. let ne : get_or text k 0 ≢ 10 = lacks k lt in ap (λ b. b == 10) (get_or_default_zero text k d lt) ∙ grind (arith, nat_tests))

told-push : (lines : List (Bor (List ℕ))) (line : Bor (List ℕ)) → told (lines ++ line ∷ []) ≡ told lines ++ line.now ∷ []
told-push lines line = map-append (λ (l : Bor (List ℕ)). l.now) lines (line ∷ [])

-- one more line was cut off
pub told-more : (whole text : List ℕ) (lines : List (Bor (List ℕ))) (line more : Bor (List ℕ)) → IsSplitOnceResult 10 text (Some (line, more)) → told lines ++ text_lines text ≡ text_lines whole
    → told (lines ++ line ∷ []) ++ text_lines more.now ≡ text_lines whole
told-more whole text lines line more split is =
    ap (λ t. t ++ text_lines more.now) (told-push lines line) ∙ append_assoc (told lines) (line.now ∷ []) (text_lines more.now)
    ∙ ap (λ t. told lines ++ t) (sym (lines-cut text line more split)) ∙ is

-- the rest is the last line
pub told-last : (whole : List ℕ) (lines : List (Bor (List ℕ))) (rest : Bor (List ℕ)) → IsSplitOnceResult 10 rest.now None → told lines ++ text_lines rest.now ≡ text_lines whole
    → told (lines ++ rest ∷ []) ≡ text_lines whole
told-last whole lines rest split is = told-push lines rest ∙ ap (λ t. told lines ++ t) (sym (lines-whole rest.now split)) ∙ is
