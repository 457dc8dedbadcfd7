use Rattle.std.proofs.Common.{sym, subst}
use Rattle.flow_check.specs.declared.state_calls.StateEntry.{StateEntry}
use Rattle.flow_check.specs.Records.{CallsByCaller, IsWellTimed}
use Rattle.flow_check.specs.Remaining.{GoesThroughAll}
use Rattle.flow_check.specs.Subscribed.{none_subscribed}
use Rattle.flow_check.specs.StateMachine.{StateKept, state_stepped, state_may_skip}
use Rattle.flow_check.specs.Verdicts.{Judges}
use Rattle.flow_check.proofs.StateJudging.{judged}
use Rattle.flow_check.proofs.StateLooking.{kept}
use Rattle.flow_check.proofs.StatePrivately.{private_calls}
use Rattle.flow_check.proofs.StateTwins.{keep_swapped}
use Rattle.flow_check.proofs.state_checking.check_state.Goals as goal

pub check-requires-clause-well : goal.check-requires-clause-well
check-requires-clause-well c = subst IsWellTimed (sym c.callers-callers.ensures.same) c.callers-callers.ensures.well

pub check-requires-clause-early : goal.check-requires-clause-early
check-requires-clause-early c = (tt, kept, private_calls)

pub check-requires-clause-swapped : goal.check-requires-clause-swapped
check-requires-clause-swapped c = keep_swapped

pub returns : goal.returns
returns c = judged c.args.calls.now c.args.initial c.in_ok-verdict.verdict c.callers-callers.ensures.well (
    subst (λ (calls : CallsByCaller StateEntry). Judges (GoesThroughAll state_stepped state_may_skip calls (record { value = c.args.initial; readers = none_subscribed calls })) c.in_ok-verdict.verdict) c.callers-callers.ensures.same (
    subst (λ (m : StateKept). Judges (GoesThroughAll state_stepped state_may_skip c.callers-callers.result.now m) c.in_ok-verdict.verdict) c.in_ok-machine.ensures c.in_ok-verdict.ensures))
