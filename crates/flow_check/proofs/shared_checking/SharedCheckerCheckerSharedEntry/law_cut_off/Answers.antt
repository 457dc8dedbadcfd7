use Rattle.flow_check.proofs.SharedJudging.{cut_off}
use Rattle.flow_check.proofs.shared_checking.SharedCheckerCheckerSharedEntry.law_cut_off.Goals as goal

pub returns : goal.returns
returns c = cut_off c.args.self.now.config
