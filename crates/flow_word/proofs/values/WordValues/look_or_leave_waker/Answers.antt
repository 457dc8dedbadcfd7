use Rattle.std.proofs.Common.{subst}
use Rattle.flow_law.specs.flow.StateFlow.{state_flow}
use Rattle.flow_word.specs.Receiving.{ReceivesInTime}
use Rattle.flow_word.proofs.values.WordValues.look_or_leave_waker.Goals as goal

pub returns-clause-received : goal.returns-clause-received
returns-clause-received g c =
    let new = c.look_or_leave_waker.new.self.subscription in
    subst (λ r. ReceivesInTime state_flow r.flow.first r.subscription c.look_or_leave_waker.result new) c.self.view_is c.look_or_leave_waker.ensures.received
