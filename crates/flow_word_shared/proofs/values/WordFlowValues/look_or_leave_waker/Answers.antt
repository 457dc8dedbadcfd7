use Rattle.std.proofs.Common.{subst}
use Rattle.flow_word_shared.specs.Receiving.{WordFlowPolls}
use Rattle.flow_word_shared.proofs.values.WordFlowValues.look_or_leave_waker.Goals as goal

pub returns-clause-polled : goal.returns-clause-polled
returns-clause-polled g c =
    let new = c.look_or_leave_waker.new.self.subscription in
    subst (λ r. WordFlowPolls r.flow.first r.subscription c.look_or_leave_waker.result new) c.self.view_is c.look_or_leave_waker.ensures.polled
