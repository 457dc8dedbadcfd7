use Rattle.std.proofs.Common.{subst}
use Rattle.flow_law.specs.history.HandleFaults.{answer_by, memory_fault}
use Rattle.flow_law.specs.flow.SharedHistory.{shared_flow}
use Rattle.flow_shared.specs.Receiving.{FlowReceives}
use Rattle.flow_shared.proofs.handles.view_reader.ViewReader+SharedCore+T+A+A.receive.Goals as goal

pub returns-clause-received : goal.returns-clause-received
returns-clause-received g c =
    subst (λ r. FlowReceives shared_flow r.flow r.subscription (answer_by memory_fault c.receive.result) c.receive.new.self.subscription) c.self.view_is
    c.receive.ensures.received
