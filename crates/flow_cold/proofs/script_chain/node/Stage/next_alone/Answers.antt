use Rattle.std.proofs.Common.{inl, refl}
use Rattle.flow_cold.proofs.script_chain.node.Stage.next_alone.Goals as goal

pub returns-in-Some-Err-clause-gives : goal.returns-in-Some-Err-clause-gives
returns-in-Some-Err-clause-gives c = λ r. rw c.failed.ensures
    (inl (rw c.in-Holding.is (rw c.in-Some-Err.field-0-is at (c.in-Some-Err.ensures.gives r))), refl)
