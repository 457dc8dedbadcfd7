use Rattle.std.proofs.Common.{subst}
use Rattle.flow_law.specs.flow.StateFlow.{state_flow}
use Rattle.flow_word.specs.Handles.{ReaderOfWord}
use Rattle.flow_word.specs.Receiving.{not_asked, ReceivesInTime}
use Rattle.flow_word.proofs.Waits.{in_vain_all, found_far}
use Rattle.flow_word.proofs.handles.reader.WordReader.look_or_leave_waker.Goals as goal

pub returns-clause-received : goal.returns-clause-received
returns-clause-received g c =
    let first = c.args.self.now.flow.first in
    let now = c.look.new.self.subscription in let new = c.look-2.new.self.subscription in
    let looked = subst (λ (r : ReaderOfWord g.row.T.Denot). ReceivesInTime state_flow r.flow.first r.subscription c.look-2.result new) c.leave_waker.ensures.same c.look-2.ensures.received in
    let found = subst (λ f. ReceivesInTime state_flow f.first now c.look-2.result new) c.in-None.ensures.flow looked in
    found_far state_flow first c.args.self.now.subscription now new c.look-2.result (in_vain_all state_flow first not_asked c.in-None.ensures.received) found

-- the second look came after the waker was left
pub returns-clause-armed : goal.returns-clause-armed
returns-clause-armed g c is =
    let new = c.look-2.new.self.subscription in
    let looked = subst (λ (r : ReaderOfWord g.row.T.Denot). ReceivesInTime state_flow r.flow.first r.subscription c.look-2.result new) c.leave_waker.ensures.same c.look-2.ensures.received in
    c.leave_waker.ensures.armed c.look-2.new.self (subst (λ o. ReceivesInTime state_flow c.look.new.self.flow.first c.look.new.self.subscription o new) is looked)
