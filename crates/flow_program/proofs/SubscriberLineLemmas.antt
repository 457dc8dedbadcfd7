-- The lines of a crowd's subscribers, which are added one after the other.
use Rattle.std.proofs.Common.{◌≡◌, ℕ, suc, ◌+◌, List, ◌++◌, append_assoc, sym, ap, ◌∙◌, arith}
use Rattle.flow_program.specs.CrowdLines.{subscriber_line, subscriber_lines}

-- the line of one subscriber is added, and `left` lines are left
pub line_added : (text next whole : List ℕ) (number got count n left : ℕ) → next ≡ text ++ subscriber_line number got → got ≡ count → n ≡ left + 1
    → text ++ subscriber_lines number n count ≡ whole → next ++ subscriber_lines (number + 1) left count ≡ whole
line_added text next whole number got count n left added all so_many was =
    let more : n ≡ suc left = so_many ∙ (let z : left + 1 ≡ suc left = omega arith in z) in
    ap (λ t. t ++ subscriber_lines (number + 1) left count) (added ∙ ap (λ m. text ++ subscriber_line number m) all)
    ∙ append_assoc text (subscriber_line number count) (subscriber_lines (number + 1) left count)
    ∙ sym (ap (λ m. text ++ subscriber_lines number m count) more) ∙ was
