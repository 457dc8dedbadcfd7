use Rattle.flow_shared.proofs.Refusals.{emit_now_fault}
use Rattle.flow_shared.proofs.handles.emitter.FlowCaller+SharedCore+T+A+A.emit_now.Goals as goal

pub emit_now_error-requires : goal.emit_now_error-requires
emit_now_error-requires g c = emit_now_fault g.row.A.Denot c.deref.result.now c.into_parts-flow.result.1 c.in-Refused.seat c.args.value c.in-Refused.value c.in-Refused.fault c.in-Refused.ensures
