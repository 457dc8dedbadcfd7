use Rattle.std.proofs.Common.{subst}
use Rattle.flow_law.specs.flow.SharedHistory.{shared_flow}
use Rattle.flow_word.specs.Receiving.{WordYields}
use Rattle.flow_word.proofs.Waits.{yields_rest}
use Rattle.flow_word_shared.proofs.Polls.{pends_yields}
use Rattle.flow_word_shared.proofs.values.WordFlowValuesStream.poll_next.Goals as goal

pub returns-in-Some-clause-value : goal.returns-in-Some-clause-value
returns-in-Some-clause-value g c = (c.look_or_leave_waker.new.self.subscription, c.in-Some.ensures.polled)

pub returns-in-Some-clause-rest : goal.returns-in-Some-clause-rest
returns-in-Some-clause-rest g c values next rest =
    let new = c.look_or_leave_waker.new.self.subscription in
    yields_rest shared_flow c.args.self.now.flow.first c.in-Some.ensures.polled values next (subst (λ f. WordYields shared_flow f.first new values next) c.in-Some.ensures.flow rest)

pub returns-in-None-clause-same : goal.returns-in-None-clause-same
returns-in-None-clause-same g c values next rest =
    let new = c.look_or_leave_waker.new.self.subscription in
    pends_yields c.args.self.now.flow.first c.in-None.ensures.polled values next (subst (λ f. WordYields shared_flow f.first new values next) c.in-None.ensures.flow rest)
