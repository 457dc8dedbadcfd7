use Rattle.std.proofs.Common.{rules, ◌≡◌, ap, sym, w64, ◌∙◌}
use Rattle.std.proofs.Math.Facts.{to_z-of_z}
use mir.Val.{to_z, of_z}
use Rattle.flow_script.proofs.CaseLemmas.{conflates, stores}
use Rattle.flow_script.proofs.case.stored_case.Goals as goal

pub returns-then-current-value : goal.returns-then-current-value
returns-then-current-value c =
    let left : to_z w64 (of_z w64 c.current.result) ≡ c.current.result = search (rules, to_z-of_z) in
    let right : to_z w64 (of_z w64 c.args.value) ≡ c.args.value = to_z-of_z c.ranges.value in
    conflates c.args.core.now.value c.args.value (sym c.current.ensures ∙ sym left ∙ ap (to_z w64) c.if-current-value.true ∙ right)

pub returns-else-current-value : goal.returns-else-current-value
returns-else-current-value c = stores c.args.core.now.value c.args.value (λ e. c.if-current-value.false (ap (of_z w64) (c.current.ensures ∙ e)))
