use Rattle.std.proofs.Common.{rules, ◌≡◌, ap, sym, w64, ◌∙◌}
use Rattle.std.proofs.Math.Facts.{to_z-of_z}
use mir.Val.{to_z, of_z}
use Rattle.flow_script.specs.Cases.{stored_case}
use Rattle.flow_script.proofs.CaseLemmas.{compares, keeps}
use Rattle.flow_script.proofs.case.compared_case.Goals as goal

pub returns-then-current-expect : goal.returns-then-current-expect
returns-then-current-expect c =
    let left : to_z w64 (of_z w64 c.current.result) ≡ c.current.result = search (rules, to_z-of_z) in
    let right : to_z w64 (of_z w64 c.args.expect) ≡ c.args.expect = to_z-of_z c.ranges.expect in
    let value = c.args.core.now.value in
    compares value c.args.expect c.stored_case.result (stored_case c.args.update c.args.core.now)
    (sym c.current.ensures ∙ sym left ∙ ap (to_z w64) c.if-current-expect.true ∙ right)
    (c.stored_case.ensures ∙ ap (λ u. stored_case u c.args.core.now) (to_z-of_z c.ranges.update))

pub returns-else-current-expect : goal.returns-else-current-expect
returns-else-current-expect c =
    keeps c.args.core.now.value c.args.expect (stored_case c.args.update c.args.core.now) (λ e. c.if-current-expect.false (ap (of_z w64) (c.current.ensures ∙ e)))
