use Rattle.flow_shared.proofs.Emissions.{emits_at_once}
use Rattle.flow_shared.proofs.shared.emitting.Flow+SharedCore+T+A+A.emit_now.Goals as goal

pub returns : goal.returns
returns g c = emits_at_once c.args.self.now c.args.seat c.args.value c.emit_by.result c.emit_by.ensures.emits
