use Rattle.std.proofs.Common.{ℕ, ◌<◌, below_more, arith}
use Rattle.std.proofs.lemmas.Option.{MatchOption-at_none}
use Rattle.flow_check.specs.Records.{IsWellAt, IsFaultOf}
use Rattle.flow_check.proofs.Parts.{recorded_within}
use Rattle.flow_check.proofs.record.first_fault.Goals as goal

pub loop-caller-preserved : goal.loop-caller-preserved
loop-caller-preserved g c = below_more _ _ c.loop-caller.invariant (
    MatchOption-at_none ((k : ℕ) → IsWellAt c.args.callers.now c.loop-caller.caller k) (IsFaultOf c.args.callers.now) c.in_default.is c.fault_of.ensures)

pub returns : goal.returns
returns g c = λ caller k d e.
    let low = recorded_within c.args.callers.now caller k d e in
    let upto = c.loop-caller-test.false in
    let near : caller < c.loop-caller.caller = omega arith in c.loop-caller.invariant caller near k d e
