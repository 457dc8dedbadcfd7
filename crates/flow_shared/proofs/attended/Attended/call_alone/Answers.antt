use Rattle.std.proofs.Common.{refl}
use Rattle.flow_shared.proofs.Attending.{alone_after}
use Rattle.flow_shared.proofs.attended.Attended.call_alone.Goals as goal

pub returns-clause-documented : goal.returns-clause-documented
returns-clause-documented g c = λ name s at.
    let kind = g.S.FlowCore.kind in
    let said = g.C.CoreCall.call c.args.call name in
    let reply = g.C.CoreCall.reply c.run-answer.result.answer in
    let now = alone_after g.S.FlowCore.sleeping g.S.FlowCore.stands_as c.args.self.now (record c.args.self.now { core = c.run-answer.new.core }) said reply s c.requires refl (c.run-answer.ensures.documented name) refl refl refl at in
    (now.0, c.sleep.ensures.stays (kind.after s said reply) (c.run-answer.ensures.waits name s at.attends.sound now.0) now.1)
