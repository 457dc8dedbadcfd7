use Rattle.flow_check.proofs.StateJudging.{cut_off}
use Rattle.flow_check.proofs.state_checking.StateCheckerCheckerStateEntry.law_cut_off.Goals as goal

pub returns : goal.returns
returns c = cut_off c.args.self.now.initial
