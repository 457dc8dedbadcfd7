use Rattle.std.proofs.Common.{rules, Bor, List, ℕ, ◌++◌, ap, ◌∙◌}
use Rattle.script_drawing.specs.Listing.{told}
use Rattle.script_drawing.specs.Drawing.{text_lines}
use Rattle.script_drawing.proofs.SplitLemmas.{told-more, told-last}
use Rattle.script_drawing.proofs.lines.split_lines.Goals as goal

pub loop-line-preserved : goal.loop-line-preserved
loop-line-preserved c = (
  search rules,
  ap (λ (items : List (Bor (List ℕ))). told items ++ text_lines c.in-Some.more.now) c.in_ok-push.ensures.items
      ∙ told-more c.args.text.now c.loop-line.rest.now c.loop-line.lines.items c.in-Some.line c.in-Some.more c.in-Some.ensures.cases c.loop-line.invariant.1,
)

pub returns : goal.returns
returns c =
    ap told c.in_ok-push-2.ensures.items ∙ told-last c.args.text.now c.loop-line.lines.items c.loop-line.rest c.in_default.ensures.cases c.loop-line.invariant.1
