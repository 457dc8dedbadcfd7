use Rattle.std.proofs.Common.{sym, ◌∙◌}
use Rattle.flow_check.proofs.StateTwins.{twins}
use Rattle.flow_check.proofs.state_machine.StateMachineMachineStateEntry.are_twins.Goals as goal

pub returns : goal.returns
returns c = λ may. twins c.args.caller c.args.other c.args.call.now c.args.twin.now c.args.self.now (sym c.may_swap.ensures ∙ may)
