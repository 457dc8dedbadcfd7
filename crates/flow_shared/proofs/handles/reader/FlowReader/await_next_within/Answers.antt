use Rattle.std.proofs.Common.{◌∙◌, Some, None}
use Rattle.flow_law.specs.history.HandleFaults.{memory_fault}
use Rattle.flow_shared.proofs.Waits.{is_refused, has_next, goes_on}
use Rattle.flow_shared.proofs.handles.reader.FlowReader.await_next_within.Goals as goal

pub returns-in-Ok-Some-clause-received : goal.returns-in-Ok-Some-clause-received
returns-in-Ok-Some-clause-received g c = has_next g.S.FlowCore.kind c.args.self.now.flow c.loop.self.flow c.args.self.now.subscription c.loop.self.subscription c.next_asleep.new.self.subscription c.loop.invariant.2 c.loop.invariant.3 c.in-Ok-Some.field-0 (Some c.in-Ok-Some.value) c.in-Ok-Some.field-0-is c.in-Ok-Some.ensures.called

pub returns-then-not-wait_within-clause-received : goal.returns-then-not-wait_within-clause-received
returns-then-not-wait_within-clause-received g c = has_next g.S.FlowCore.kind c.args.self.now.flow c.loop.self.flow c.args.self.now.subscription c.loop.self.subscription c.next_asleep.new.self.subscription c.loop.invariant.2 c.loop.invariant.3 c.in-Ok-None.field-0 None c.in-Ok-None.field-0-is c.in-Ok-None.ensures.called

pub returns-in-Err-clause-received : goal.returns-in-Err-clause-received
returns-in-Err-clause-received g c = is_refused g.S.FlowCore.kind c.args.self.now.flow c.loop.self.flow c.args.self.now.subscription c.loop.self.subscription c.next_asleep.new.self.subscription c.loop.invariant.2 c.loop.invariant.3 (memory_fault c.in-Err.refused) c.in-Err.ensures.called

pub loop-preserved : goal.loop-preserved
loop-preserved g c = (tt, tt, c.in-Ok-None.ensures.flow ∙ c.loop.invariant.2, goes_on g.S.FlowCore.kind c.args.self.now.flow c.loop.self.flow c.args.self.now.subscription c.loop.self.subscription c.next_asleep.new.self.subscription c.loop.invariant.2 c.loop.invariant.3 c.in-Ok-None.field-0 c.in-Ok-None.field-0-is c.in-Ok-None.ensures.called)
