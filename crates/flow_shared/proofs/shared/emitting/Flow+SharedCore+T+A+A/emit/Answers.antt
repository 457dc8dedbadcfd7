use Rattle.std.proofs.Common.{refl}
use Rattle.flow_shared.specs.SharedReplies.{emitted_reply, emitted_token}
use Rattle.flow_shared.proofs.Emissions.{emits_waiting}
use Rattle.flow_shared.proofs.Refusals.{answer_fault}
use Rattle.flow_shared.proofs.shared.emitting.Flow+SharedCore+T+A+A.emit.Goals as goal

pub returns-clause-emits : goal.returns-clause-emits
returns-clause-emits g c = emits_waiting c.args.self.now c.args.seat c.args.value c.emit_by.result c.emit_by.ensures.emits

pub returns-clause-refused : goal.returns-clause-refused
returns-clause-refused g c =
    let r = c.emit_by.result in
    answer_fault c.args.self.now c.args.seat (emitted_token r) c.args.value (emitted_reply r) r refl (emits_waiting c.args.self.now c.args.seat c.args.value r c.emit_by.ensures.emits).0
