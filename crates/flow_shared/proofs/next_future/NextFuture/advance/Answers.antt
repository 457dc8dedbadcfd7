use Rattle.flow_shared.proofs.NextRuns.{gives_value, gives_same, is_due, one_each}
use Rattle.flow_shared.proofs.next_future.NextFuture.advance.Goals as goal

pub returns-clause-one : goal.returns-clause-one
returns-clause-one g c = one_each c.args.self.now.flow c.args.self.now.subscription c.call.result c.call.new.self.subscription c.call.ensures.polls

pub returns-clause-value : goal.returns-clause-value
returns-clause-value g c = gives_value c.args.self.now c.call.new.self c.call.result c.call.ensures.polls c.call.ensures.at

pub returns-clause-same : goal.returns-clause-same
returns-clause-same g c = gives_same c.args.self.now c.call.new.self c.call.result c.call.ensures.flow c.call.ensures.polls

pub returns-clause-refused : goal.returns-clause-refused
returns-clause-refused g c = is_due c.args.self.now.flow c.args.self.now.subscription c.call.result c.call.new.self.subscription c.call.ensures.polls
