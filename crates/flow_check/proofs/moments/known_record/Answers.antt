use Rattle.std.proofs.Common.{sym, subst}
use Rattle.flow_check.specs.Records.{IsWellTimed}
use Rattle.flow_check.proofs.KnownRows.{well_known, no_fault}
use Rattle.flow_check.proofs.moments.known_record.Goals as goal

pub returns-in-Err-clause-made : goal.returns-in-Err-clause-made
returns-in-Err-clause-made g c =
    let rows = c.in_ok-rows.rows.items in
    let fault = c.in-Err.field-0 in
    let well = subst IsWellTimed (sym c.callers.ensures.same) c.callers.ensures.well in
    absurd (no_fault rows fault.caller fault.index fault.kind (well_known c.args.cut c.callers.result.now rows well c.in_ok-rows.ensures) c.in-Err.ensures.refused)
