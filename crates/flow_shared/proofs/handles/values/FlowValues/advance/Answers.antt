use Rattle.std.proofs.Common.{subst}
use Rattle.flow_shared.specs.Polling.{PollsNext}
use Rattle.flow_shared.proofs.handles.values.FlowValues.advance.Goals as goal

pub returns-clause-polls : goal.returns-clause-polls
returns-clause-polls g c =
    let new = c.poll_next_value.new.self.subscription in
    subst (λ r. PollsNext g.S.FlowCore.kind r.flow r.subscription c.poll_next_value.result new) c.self.view_is c.poll_next_value.ensures.polls
