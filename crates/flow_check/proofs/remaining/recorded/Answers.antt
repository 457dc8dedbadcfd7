use Rattle.std.proofs.Common.{sym, ap}
use Rattle.std.proofs.lemmas.Option.{slice_get_past}
use Rattle.flow_check.specs.Records.{call_in}
use Rattle.flow_check.proofs.remaining.recorded.Goals as goal

pub returns-in-None : goal.returns-in-None
returns-in-None g c = ap (λ calls. call_in calls c.args.index) (sym (slice_get_past c.args.callers.now c.args.caller c.in-None.ensures.lookup.3))
