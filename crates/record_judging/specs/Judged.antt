-- What a verdict says of the calls that a record has. Begin with `JudgesCalls`.
use Rattle.std.specs.Prelude.{ℕ, List}
use Rattle.flow_check.specs.declared.record.Fault.{Fault}
use Rattle.flow_check.specs.declared.state_calls.StateEntry.{StateEntry}
use Rattle.flow_check.specs.declared.shared_calls.SharedEntry.{SharedEntry}
use Rattle.flow_check.specs.declared.verdict.Verdict.{Verdict}
use Rattle.flow_check.specs.Records.{CallsByCaller, IsFaultOf}
use Rattle.flow_check.specs.StateRecords.{ExplainsState}
use Rattle.flow_check.specs.SharedRecords.{ExplainsShared}
use Rattle.flow_check.specs.Moments.{GoesWrong}
use Rattle.flow_check.specs.Verdicts.{Judges}
use Rattle.record_judging.specs.declared.judging.Outcome.{Outcome}
use Rattle.record_judging.specs.declared.judging.Outcome.TheVariants.{Judged, Faulty}
use Rattle.record_judging.specs.declared.written.WrittenFlow.{WrittenFlow}
use Rattle.record_judging.specs.declared.written.WrittenFlow.TheVariants.{State, Shared}
use Rattle.record_judging.specs.StateRows.{Rows, AreStateCalls}
use Rattle.record_judging.specs.SharedRows.{AreSharedCalls}

-- The verdict is right about these calls of this flow: an order of a legal record explains them, and nothing explains those of an
-- illegal one.
abbrev pub JudgesCalls : WrittenFlow → List ℕ → Rows → Verdict → Type 0
JudgesCalls (State initial) lists rows verdict =
    (callers : CallsByCaller StateEntry) × AreStateCalls lists rows callers × Judges (ExplainsState callers initial) verdict
JudgesCalls (Shared config) lists rows verdict =
    (callers : CallsByCaller SharedEntry) × AreSharedCalls lists rows callers × Judges (ExplainsShared callers config) verdict

-- some part of these calls has this fault
abbrev pub HasFaultIn : WrittenFlow → List ℕ → Rows → Fault → Type 0
HasFaultIn (State initial) lists rows fault = (callers : CallsByCaller StateEntry) × AreStateCalls lists rows callers × IsFaultOf callers fault
HasFaultIn (Shared config) lists rows fault = (callers : CallsByCaller SharedEntry) × AreSharedCalls lists rows callers × IsFaultOf callers fault

-- what judging these calls came to
abbrev pub JudgesRows : WrittenFlow → List ℕ → Rows → Outcome → Type 0
JudgesRows flow lists rows (Judged verdict) = JudgesCalls flow lists rows verdict
JudgesRows flow lists rows (Faulty fault number) = HasFaultIn flow lists rows fault

-- these calls of this flow go wrong at this moment
abbrev pub GoesWrongAt : WrittenFlow → List ℕ → Rows → ℕ → Type 0
GoesWrongAt (State initial) lists rows moment =
    (callers : CallsByCaller StateEntry) × AreStateCalls lists rows callers × GoesWrong (λ known. ExplainsState known initial) moment callers
GoesWrongAt (Shared config) lists rows moment =
    (callers : CallsByCaller SharedEntry) × AreSharedCalls lists rows callers × GoesWrong (λ known. ExplainsShared known config) moment callers
