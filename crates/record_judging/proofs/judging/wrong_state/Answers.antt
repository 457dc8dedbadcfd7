use Rattle.std.proofs.Common.{ℕ, List, subst}
use Rattle.record_judging.specs.StateRows.{Rows, AreStateCalls}
use Rattle.record_judging.proofs.Outcomes.{state_wrong}
use Rattle.record_judging.proofs.judging.wrong_state.Goals as goal

pub returns-in_ok-moment-in-Ok : goal.returns-in_ok-moment-in-Ok
returns-in_ok-moment-in-Ok c =
    let sheet = c.args.sheet.now in
    let callers = c.in_ok-callers.callers.items in
    let of_lists = subst (λ (lists : List ℕ). AreStateCalls lists c.as_slice.result.now callers) c.as_slice-2.ensures.value c.in_ok-callers.ensures in
    let of_sheet = subst (λ (rows : Rows). AreStateCalls sheet.lists.items rows callers) c.as_slice.ensures.value of_lists in
    state_wrong c.args.initial sheet.lists.items sheet.rows.items callers _ of_sheet c.in-Ok.ensures.kept c.in_ok-moment-in-Ok.moment c.in_ok-moment-in-Ok.ensures
