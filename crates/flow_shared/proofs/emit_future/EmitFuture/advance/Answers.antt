use Rattle.flow_shared.proofs.EmitRuns.{gives_value, gives_same, is_due}
use Rattle.flow_shared.proofs.EmitCountLemmas.{one_each, keeps_count}
use Rattle.flow_shared.proofs.emit_future.EmitFuture.advance.Goals as goal

pub returns-clause-value : goal.returns-clause-value
returns-clause-value g c = gives_value c.args.self.now c.call.new.self c.call.result c.call.ensures.polls c.call.ensures.at

pub returns-clause-same : goal.returns-clause-same
returns-clause-same g c = gives_same c.args.self.now c.call.new.self c.call.result c.call.ensures.flow c.call.ensures.polls

pub returns-clause-one : goal.returns-clause-one
returns-clause-one g c = one_each c.args.self.now.flow c.args.self.now.stage c.call.result c.call.new.self.stage c.call.ensures.polls

pub returns-clause-count : goal.returns-clause-count
returns-clause-count g c = keeps_count c.args.self.now.flow c.args.self.now.stage c.call.result c.call.new.self.stage c.call.ensures.polls

pub returns-clause-refused : goal.returns-clause-refused
returns-clause-refused g c = is_due c.args.self.now.flow c.args.self.now.stage c.call.result c.call.new.self.stage c.call.ensures.polls
