use Rattle.flow_shared.proofs.Refusals.{try_emit_fault}
use Rattle.flow_shared.proofs.shared.emitting.Flow+SharedCore+T+A+A.try_emit.Goals as goal

pub returns-clause-refused : goal.returns-clause-refused
returns-clause-refused g c = try_emit_fault c.args.self.now c.args.seat.now c.call.new.seat c.args.value c.call.result c.call.ensures.called
