use Rattle.std.proofs.Common.{subst}
use Rattle.flow_law.specs.history.HandleFaults.{answer_by, memory_fault}
use Rattle.flow_law.specs.history.Handles.{next_in}
use Rattle.flow_law.specs.flow.StateFlow.{state_flow}
use Rattle.flow_shared.specs.Receiving.{NextsUntil}
use Rattle.flow_shared.proofs.handles.view_reader.ViewReader+StateCore+T+A+A.changed_timeout.Goals as goal

pub returns-clause-received : goal.returns-clause-received
returns-clause-received g c =
    subst (λ r. NextsUntil state_flow r.flow r.subscription (next_in (answer_by memory_fault c.changed_timeout.result)) c.changed_timeout.new.self.subscription) c.self.view_is
    c.changed_timeout.ensures.received
