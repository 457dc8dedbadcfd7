use Rattle.std.proofs.Common.{◌<◌, below_more, arith}
use Rattle.std.specs.Prelude.{slice_get}
use Rattle.std.proofs.lemmas.Option.{MatchOption-at_none}
use Rattle.flow_check.specs.Records.{IsWellAt, IsFaultOf}
use Rattle.flow_check.proofs.Parts.{recorded_below}
use Rattle.flow_check.proofs.record.fault_of.Goals as goal

pub loop-index-preserved : goal.loop-index-preserved
loop-index-preserved g c = below_more _ _ c.loop-index.invariant (
    MatchOption-at_none (IsWellAt c.args.callers.now c.args.caller c.loop-index.index) (IsFaultOf c.args.callers.now) c.in_default.is c.fault_at.ensures)

pub returns : goal.returns
returns g c = λ k d e.
    let low = recorded_below (slice_get c.args.callers.now c.args.caller) k d e in
    let upto = c.loop-index-test.false in
    let count = c.count_of-index-end.ensures in
    let near : k < c.loop-index.index = omega arith in c.loop-index.invariant k near d e
