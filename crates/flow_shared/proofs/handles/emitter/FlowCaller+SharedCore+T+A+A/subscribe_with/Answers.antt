use Rattle.flow_shared.proofs.Refusals.{subscribe_fault}
use Rattle.flow_shared.proofs.handles.emitter.FlowCaller+SharedCore+T+A+A.subscribe_with.Goals as goal

pub number_error-requires : goal.number_error-requires
number_error-requires g c = subscribe_fault c.deref.result.now c.self.inside.seat c.subscribe_with.new.seat _ c.args.first.items c.in-Err.field-0.fault c.in-Err.ensures.subscribed
