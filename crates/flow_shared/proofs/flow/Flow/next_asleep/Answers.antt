use Rattle.flow_shared.proofs.NextTries.{nexts_waiting, same_number, finds_itself, refused_memory, always_given}
use Rattle.flow_shared.proofs.flow.Flow.next_asleep.Goals as goal

pub returns-clause-called : goal.returns-clause-called
returns-clause-called g c = nexts_waiting g.S.FlowCore.kind g.S.FlowCore.lawful c.args.self.now c.args.subscription.now c.next_by.new.subscription c.next_by.result c.next_by.ensures.called

pub returns-clause-number : goal.returns-clause-number
returns-clause-number g c = same_number g.S.FlowCore.kind g.S.FlowCore.lawful c.args.self.now c.args.subscription.now c.next_by.new.subscription ⊥ c.next_by.result c.next_by.ensures.called

pub returns-clause-live : goal.returns-clause-live
returns-clause-live g c = finds_itself g.S.FlowCore.kind g.S.FlowCore.lawful c.args.self.now c.args.subscription.now c.next_by.new.subscription ⊥ c.next_by.result c.next_by.ensures.called

pub returns-clause-refused : goal.returns-clause-refused
returns-clause-refused g c = refused_memory g.S.FlowCore.kind g.S.FlowCore.lawful c.args.self.now c.args.subscription.now c.next_by.new.subscription c.next_by.result c.next_by.ensures.called

pub returns-clause-given : goal.returns-clause-given
returns-clause-given g c = λ always. always_given c.next_by.result (c.next_by.ensures.given always)
