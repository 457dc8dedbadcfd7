use Rattle.flow_law.proofs.ReplayLemmas.{replays}
use Rattle.flow_law.proofs.laws.law_replay.Goals as goal

pub returns : goal.returns
returns g c = λ config h legal. replays config h legal
