use Rattle.flow_shared.proofs.Refusals.{next_now_fault}
use Rattle.flow_shared.proofs.handles.reader.FlowReader.try_next.Goals as goal

pub try_next_error-requires : goal.try_next_error-requires
try_next_error-requires g c = next_now_fault g.S.FlowCore.kind g.S.FlowCore.lawful c.deref.result.now c.self.inside.subscription c.next_now.new.subscription c.in-Err.fault c.in-Err.ensures.called
