use Rattle.std.proofs.Common.{subst}
use Rattle.flow_law.specs.history.HandleFaults.{answer_by, memory_fault}
use Rattle.flow_law.specs.flow.StateFlow.{state_flow}
use Rattle.flow_shared.specs.Receiving.{FlowReceives}
use Rattle.flow_shared.proofs.handles.view_reader.ViewReader+StateCore+T+A+A.changed.Goals as goal

pub returns-clause-received : goal.returns-clause-received
returns-clause-received g c =
    subst (λ r. FlowReceives state_flow r.flow r.subscription (answer_by memory_fault c.changed.result) c.changed.new.self.subscription) c.self.view_is
    c.changed.ensures.received
