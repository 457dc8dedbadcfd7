use Rattle.std.proofs.Common.{subst}
use Rattle.flow_law.specs.history.HandleFaults.{answer_by, memory_fault}
use Rattle.flow_law.specs.history.Handles.{next_in}
use Rattle.flow_law.specs.flow.SharedHistory.{shared_flow}
use Rattle.flow_shared.specs.Receiving.{NextsUntil}
use Rattle.flow_shared.proofs.handles.view_reader.ViewReader+SharedCore+T+A+A.receive_timeout.Goals as goal

pub returns-clause-received : goal.returns-clause-received
returns-clause-received g c =
    subst (λ r. NextsUntil shared_flow r.flow r.subscription (next_in (answer_by memory_fault c.receive_timeout.result)) c.receive_timeout.new.self.subscription) c.self.view_is
    c.receive_timeout.ensures.received
