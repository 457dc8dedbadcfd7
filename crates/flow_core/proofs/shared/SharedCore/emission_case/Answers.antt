use Rattle.flow_law.proofs.HoldingLemmas.{covers}
use Rattle.flow_core.proofs.shared.SharedCore.emission_case.Goals as goal

pub returns : goal.returns
returns g c = record { documented = λ s stands. c.emit_case.ensures.shown s (covers c.args.self.now s stands) }
