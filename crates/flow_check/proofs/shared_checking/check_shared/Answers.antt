use Rattle.std.proofs.Common.{sym, ap, ◌∙◌, subst}
use Rattle.std.specs.Prelude.{is_some}
use Rattle.std.proofs.lemmas.Bool.{false≢true}
use Rattle.flow_law.specs.flow.SharedFlow.{config_fault}
use Rattle.flow_check.specs.declared.shared_calls.SharedEntry.{SharedEntry}
use Rattle.flow_check.specs.Records.{CallsByCaller, IsWellTimed}
use Rattle.flow_check.specs.Remaining.{GoesThroughAll}
use Rattle.flow_check.specs.SharedMachine.{Kept, stepped, may_skip}
use Rattle.flow_check.specs.Verdicts.{Judges}
use Rattle.flow_check.specs.SharedLooks.{KeepsWhatIsNeeded, is_look}
use Rattle.flow_check.proofs.Privately.{of_looks}
use Rattle.flow_check.proofs.SharedJudging.{begun, fault_free, judged}
use Rattle.flow_check.proofs.SharedLooking.{begun_sound, kept, looks}
use Rattle.flow_check.proofs.shared_checking.check_shared.Goals as goal

pub returns-then-has_fault : goal.returns-then-has_fault
returns-then-has_fault c = λ order x. absurd (false≢true (sym (ap is_some x.1.history.begins.1) ∙ sym c.has_fault.ensures ∙ c.if-has_fault.true))

pub check-requires-clause-well : goal.check-requires-clause-well
check-requires-clause-well c = subst IsWellTimed (sym c.callers-callers.ensures.same) c.callers-callers.ensures.well

pub check-requires-clause-early : goal.check-requires-clause-early
check-requires-clause-early c = (subst KeepsWhatIsNeeded (sym c.in_ok-machine.ensures) (begun_sound c.callers-callers.result.now c.args.config), kept, of_looks stepped may_skip KeepsWhatIsNeeded is_look looks)

pub check-requires-clause-swapped : goal.check-requires-clause-swapped
check-requires-clause-swapped c = record {
  keeps = λ s t after caller other third call twin e from_caller from_other swapped step. absurd swapped;
  ends = λ s t after caller other call twin apart swapped step. absurd swapped;
}

pub returns : goal.returns
returns c = judged c.args.calls.now c.args.config c.in_ok-verdict.verdict (fault_free (config_fault c.args.config) (sym c.has_fault.ensures ∙ c.if-has_fault.false)) c.callers-callers.ensures.well (
    subst (λ (calls : CallsByCaller SharedEntry). Judges (GoesThroughAll stepped may_skip calls (begun calls c.args.config)) c.in_ok-verdict.verdict) c.callers-callers.ensures.same (
    subst (λ (m : Kept). Judges (GoesThroughAll stepped may_skip c.callers-callers.result.now m) c.in_ok-verdict.verdict) c.in_ok-machine.ensures c.in_ok-verdict.ensures))
