use Rattle.std.proofs.Common.{length, refl, sym, ap, ◌∙◌}
use Rattle.std.proofs.lemmas.Option.{slice_get_past, slice_get_read}
use Rattle.flow_check.specs.Records.{count_in}
use Rattle.flow_check.proofs.record.count_of.Goals as goal

pub returns-in-None : goal.returns-in-None
returns-in-None g c = ap count_in (sym (slice_get_past c.args.callers.now c.args.caller c.in-None.ensures.lookup.3))

pub returns-in-Some : goal.returns-in-Some
returns-in-Some g c =
    let rows = c.args.callers.now in
    let found = slice_get_read rows (length rows) c.args.caller c.in-Some.calls.now refl c.in-Some.ensures.lookup.3.0 c.in-Some.ensures.lookup.1 in ap length c.as_slice.ensures.value ∙ ap count_in (sym found)
