use Rattle.flow_shared.proofs.PollRuns.{yields_first, yields_rest, yields_later}
use Rattle.flow_shared.proofs.handles.values.FlowValuesStream.poll_next.Goals as goal

pub returns-in-Ready-clause-value : goal.returns-in-Ready-clause-value
returns-in-Ready-clause-value g c = yields_first g.S.FlowCore.kind c.args.self.now c.advance.new.self c.in-Ready.received c.in-Ready.ensures.polls

pub returns-in-Ready-clause-rest : goal.returns-in-Ready-clause-rest
returns-in-Ready-clause-rest g c values next rest =
    yields_rest g.S.FlowCore.kind c.args.self.now c.advance.new.self c.in-Ready.received c.in-Ready.ensures.flow c.in-Ready.ensures.polls values next rest

pub returns-in-Pending-clause-same : goal.returns-in-Pending-clause-same
returns-in-Pending-clause-same g c values next rest =
    yields_later g.S.FlowCore.kind c.args.self.now c.advance.new.self c.in-Pending.ensures.flow c.in-Pending.ensures.polls values next rest
