use Rattle.std.proofs.Common.{subst}
use Rattle.std.proofs.lemmas.Option.{MatchOption-at_none, MatchOption-at_some}
use Rattle.flow_check.specs.Records.{CallsByCaller, IsWellTimed, IsFaultOf}
use Rattle.flow_check.proofs.record.Record.new.Goals as goal

pub invariant_of-result : goal.invariant_of-result
invariant_of-result g c = subst IsWellTimed c.as_slice.ensures.value (
    MatchOption-at_none (IsWellTimed c.as_slice.result.now) (IsFaultOf c.as_slice.result.now) c.in-None.is c.first_fault.ensures)

pub returns-in-Some-clause-refused : goal.returns-in-Some-clause-refused
returns-in-Some-clause-refused g c = subst (λ (callers : CallsByCaller _). IsFaultOf callers c.in-Some.fault) c.as_slice.ensures.value (
    MatchOption-at_some (IsWellTimed c.as_slice.result.now) (IsFaultOf c.as_slice.result.now) c.in-Some.fault c.in-Some.is c.first_fault.ensures)
