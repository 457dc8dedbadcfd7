use Rattle.std.proofs.Common.{subst}
use Rattle.flow_law.specs.flow.StateFlow.{state_flow}
use Rattle.flow_word.specs.Receiving.{not_asked, WordYields}
use Rattle.flow_word.proofs.Waits.{yields_rest, yields_far, in_vain_all}
use Rattle.flow_word.proofs.values.WordValuesStream.poll_next.Goals as goal

pub returns-in-Some-clause-value : goal.returns-in-Some-clause-value
returns-in-Some-clause-value g c = (c.look_or_leave_waker.new.self.subscription, c.in-Some.ensures.received)

pub returns-in-Some-clause-rest : goal.returns-in-Some-clause-rest
returns-in-Some-clause-rest g c values next rest =
    let new = c.look_or_leave_waker.new.self.subscription in
    yields_rest state_flow c.args.self.now.flow.first c.in-Some.ensures.received values next (subst (λ f. WordYields state_flow f.first new values next) c.in-Some.ensures.flow rest)

pub returns-in-None-clause-same : goal.returns-in-None-clause-same
returns-in-None-clause-same g c values next rest =
    let new = c.look_or_leave_waker.new.self.subscription in
    yields_far state_flow c.args.self.now.flow.first (in_vain_all state_flow c.args.self.now.flow.first not_asked c.in-None.ensures.received) values next (subst (λ f. WordYields state_flow f.first new values next) c.in-None.ensures.flow rest)
