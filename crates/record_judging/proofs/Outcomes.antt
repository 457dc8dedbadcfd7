-- When a record's calls go wrong, from what the checker found for their parts.
use Rattle.std.proofs.Common.{◌≡◌, ℕ, List, Option, Some, None, subst}
use Rattle.std.specs.Prelude.{IfSome}
use Rattle.flow_law.specs.declared.config.Config.{Config}
use Rattle.flow_check.specs.declared.state_calls.StateEntry.{StateEntry}
use Rattle.flow_check.specs.declared.shared_calls.SharedEntry.{SharedEntry}
use Rattle.flow_check.specs.Records.{CallsByCaller}
use Rattle.flow_check.specs.StateRecords.{ExplainsState}
use Rattle.flow_check.specs.SharedRecords.{ExplainsShared}
use Rattle.flow_check.specs.Moments.{GoesWrong}
use Rattle.record_judging.specs.declared.written.WrittenFlow.TheVariants.{State, Shared}
use Rattle.record_judging.specs.StateRows.{Rows, AreStateCalls}
use Rattle.record_judging.specs.SharedRows.{AreSharedCalls}
use Rattle.record_judging.specs.Judged.{GoesWrongAt}

-- the parts of a state flow's calls go wrong at the moment, so the calls do
pub state_wrong : (initial : ℕ) (lists : List ℕ) (rows : Rows) (callers made : CallsByCaller StateEntry) → AreStateCalls lists rows callers → made ≡ callers
    → (found : Option ℕ) → IfSome found (λ moment. GoesWrong (λ known. ExplainsState known initial) moment made) → IfSome found (GoesWrongAt (State initial) lists rows)
state_wrong initial lists rows callers made are same None wrong = tt
state_wrong initial lists rows callers made are same (Some moment) wrong = (callers, are, subst (GoesWrong (λ known. ExplainsState known initial) moment) same wrong)

-- the parts of a shared flow's calls go wrong at the moment, so the calls do
pub shared_wrong : (config : Config) (lists : List ℕ) (rows : Rows) (callers made : CallsByCaller SharedEntry) → AreSharedCalls lists rows callers → made ≡ callers
    → (found : Option ℕ) → IfSome found (λ moment. GoesWrong (λ known. ExplainsShared known config) moment made) → IfSome found (GoesWrongAt (Shared config) lists rows)
shared_wrong config lists rows callers made are same None wrong = tt
shared_wrong config lists rows callers made are same (Some moment) wrong = (callers, are, subst (GoesWrong (λ known. ExplainsShared known config) moment) same wrong)
