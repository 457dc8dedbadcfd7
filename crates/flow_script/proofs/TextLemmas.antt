-- The lines after one more answer.
use Rattle.std.proofs.Common.{◌≡◌, ℕ, zero, suc, ◌+◌, ◌<◌, List, [], ◌∷◌, ◌++◌, length, map, take, get_or, sym, ap, ◌∙◌, append_assoc, append-nil, add-one, arith}
use Rattle.flow_script.specs.declared.answer.NotMade.{NotMade}
use Rattle.flow_script.specs.declared.answer.Answer.{Answer as Given}
use Rattle.flow_script.specs.Lines.{line_of, lined, lines_of}
use Rattle.flow_script.specs.Answers.{as_answer}
use Rattle.flow_script.specs.Said.{not_made_of}
use Rattle.flow_script.specs.ScriptMeaning.{not_made_line, not_made_lines}

step-after : (xs : List Given) (i : ℕ) (x : Given) → i < length xs → x ≡ get_or xs i x
    → lines_of (map as_answer (take (suc i) xs)) ≡ lines_of (map as_answer (take i xs)) ++ lined (line_of (as_answer x))
step-after [] i x here is = absurd (omega arith)
step-after (y ∷ ys) zero x here is = append-nil _ ∙ ap (λ t. lined (line_of (as_answer t))) (sym is)
step-after (y ∷ ys) (suc i) x here is =
    ap (λ l. lined (line_of (as_answer y)) ++ l) (step-after ys i x (omega arith) is) ∙ sym (append_assoc (lined (line_of (as_answer y))) (lines_of (map as_answer (take i ys))) (lined (line_of (as_answer x))))

flow-after : (xs : List NotMade) (i : ℕ) (x : NotMade) → i < length xs → x ≡ get_or xs i x
    → not_made_lines (map not_made_of (take (suc i) xs)) ≡ not_made_lines (map not_made_of (take i xs)) ++ lined (not_made_line (not_made_of x))
flow-after [] i x here is = absurd (omega arith)
flow-after (y ∷ ys) zero x here is = append-nil _ ∙ ap (λ f. lined (not_made_line (not_made_of f))) (sym is)
flow-after (y ∷ ys) (suc i) x here is =
    ap (λ l. lined (not_made_line (not_made_of y)) ++ l) (flow-after ys i x (omega arith) is)
    ∙ sym (append_assoc (lined (not_made_line (not_made_of y))) (not_made_lines (map not_made_of (take i ys))) (lined (not_made_line (not_made_of x))))

-- a text that has the lines of the first steps, and then the line of the next one
pub step-written : (steps : List Given) (i : ℕ) (step : Given) (before so_far text : List ℕ) → i < length steps → step ≡ get_or steps i step
    → so_far ≡ before ++ lines_of (map as_answer (take i steps)) → text ≡ so_far ++ lined (line_of (as_answer step))
    → text ≡ before ++ lines_of (map as_answer (take (i + 1) steps))
step-written steps i step before so_far text here is written more =
    more ∙ ap (λ t. t ++ lined (line_of (as_answer step))) written ∙ append_assoc before (lines_of (map as_answer (take i steps))) (lined (line_of (as_answer step)))
    ∙ ap (λ l. before ++ l) (sym (step-after steps i step here is)) ∙ ap (λ n. before ++ lines_of (map as_answer (take n steps))) (sym (add-one i))

pub flow-written : (flows : List NotMade) (i : ℕ) (flow : NotMade) (before so_far text : List ℕ) → i < length flows → flow ≡ get_or flows i flow
    → so_far ≡ before ++ not_made_lines (map not_made_of (take i flows)) → text ≡ so_far ++ lined (not_made_line (not_made_of flow))
    → text ≡ before ++ not_made_lines (map not_made_of (take (i + 1) flows))
flow-written flows i flow before so_far text here is written more =
    more ∙ ap (λ t. t ++ lined (not_made_line (not_made_of flow))) written ∙ append_assoc before (not_made_lines (map not_made_of (take i flows))) (lined (not_made_line (not_made_of flow)))
    ∙ ap (λ l. before ++ l) (sym (flow-after flows i flow here is)) ∙ ap (λ n. before ++ not_made_lines (map not_made_of (take n flows))) (sym (add-one i))
