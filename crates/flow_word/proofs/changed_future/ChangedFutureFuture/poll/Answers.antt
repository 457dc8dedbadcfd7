use Rattle.std.proofs.Common.{◌∙◌, subst}
use Rattle.flow_law.specs.flow.StateFlow.{state_flow}
use Rattle.flow_word.specs.Receiving.{WordGivesChanged, WordReceives, not_asked}
use Rattle.flow_word.proofs.Waits.{in_vain_all, receives_far}
use Rattle.flow_word.proofs.changed_future.ChangedFutureFuture.poll.Goals as goal

pub returns-in-None-look_or_leave_waker-clause-same : goal.returns-in-None-look_or_leave_waker-clause-same
returns-in-None-look_or_leave_waker-clause-same g c given gives =
    let old = c.in-Some.reader in let new = c.look_or_leave_waker.new.self in
    let kept = c.in-None-look_or_leave_waker.ensures.flow in
    let received = subst (λ f. WordReceives state_flow f.first new.subscription given.1 given.0.subscription) kept gives.1 in
    let in_vain = in_vain_all state_flow old.flow.first not_asked c.in-None-look_or_leave_waker.ensures.received in
    subst (λ f. WordGivesChanged state_flow f given) (c.in-Some.ensures.value ∙ c.self.view_is) (gives.0 ∙ kept, receives_far state_flow old.flow.first in_vain received)
