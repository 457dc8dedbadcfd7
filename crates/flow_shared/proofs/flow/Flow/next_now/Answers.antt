use Rattle.flow_shared.proofs.NextTries.{nexts_at_once}
use Rattle.flow_shared.proofs.flow.Flow.next_now.Goals as goal

pub returns-clause-called : goal.returns-clause-called
returns-clause-called g c = nexts_at_once g.S.FlowCore.kind g.S.FlowCore.lawful c.args.self.now c.args.subscription.now c.next_by.new.subscription c.next_by.result c.next_by.ensures.called
