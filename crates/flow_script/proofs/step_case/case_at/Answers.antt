use Rattle.flow_script.proofs.RowLemmas.{case-at, case-past}
use Rattle.flow_script.proofs.step_case.case_at.Goals as goal

pub returns-then-place-row : goal.returns-then-place-row
returns-then-place-row c = λ flows shows.
    let here = c.index-row-place in
    case-at c.args.row.now flows c.args.place here.result c.args.step _ shows c.if-place-row.true here.is c.place_case.ensures

pub returns : goal.returns
returns c = λ flows shows. case-past c.args.row.now flows c.args.place c.args.step shows c.if-place-row.false
