use Rattle.flow_turns.proofs.PassingLemmas.{follows-backwards, follows-observed}
use Rattle.flow_turns.proofs.sharing.Sharing.observed.Goals as goal

pub returns-in-Err-clause-follows : goal.returns-in-Err-clause-follows
returns-in-Err-clause-follows g c =
    follows-backwards _ c.args.now c.args.self.now c.args.count c.in-Err.backwards c.observe.new.self c.in-Err.ensures.observes c.in-Err.ensures.unchanged

pub returns-clause-follows : goal.returns-clause-follows
returns-clause-follows g c =
    follows-observed _ c.args.now c.args.self.now c.args.count c.in-Ok.command c.observe.new.self c.carry_out-outcome.result c.report_of.result c.carry_out-outcome.new.self
    c.in-Ok.ensures.observes c.in-Ok.ensures.runs c.carry_out-outcome.ensures.steps c.carry_out-outcome.ensures.policy c.report_of.ensures
