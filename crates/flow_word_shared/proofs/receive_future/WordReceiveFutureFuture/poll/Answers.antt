use Rattle.std.proofs.Common.{◌∙◌, subst}
use Rattle.flow_law.specs.flow.SharedHistory.{shared_flow}
use Rattle.flow_word.specs.Receiving.{WordReceives}
use Rattle.flow_word_shared.specs.Receiving.{WordFlowGives}
use Rattle.flow_word_shared.proofs.Polls.{pends_receives}
use Rattle.flow_word_shared.proofs.receive_future.WordReceiveFutureFuture.poll.Goals as goal

pub returns-in-None-look_or_leave_waker-clause-same : goal.returns-in-None-look_or_leave_waker-clause-same
returns-in-None-look_or_leave_waker-clause-same g c given gives =
    let old = c.in-Some.reader in let new = c.look_or_leave_waker.new.self in
    let kept = c.in-None-look_or_leave_waker.ensures.flow in
    let received = subst (λ f. WordReceives shared_flow f.first new.subscription given.1 given.0.subscription) kept gives.1 in
    subst (λ f. WordFlowGives f given) (c.in-Some.ensures.value ∙ c.self.view_is) (gives.0 ∙ kept, pends_receives old.flow.first c.in-None-look_or_leave_waker.ensures.polled received)
