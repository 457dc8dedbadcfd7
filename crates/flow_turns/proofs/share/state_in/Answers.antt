use Rattle.std.proofs.Common.{ap, ◌∙◌}
use Rattle.flow_law.specs.declared.report.ShareFault.TheVariants.{Flow}
use Rattle.flow_law.specs.flow.StateFlow.{first_state_flow}
use Rattle.flow_turns.specs.StateHub.{state_core_of, reset_value}
use Rattle.flow_turns.proofs.share.state_in.Goals as goal

pub returns-in-Ok-clause-flow : goal.returns-in-Ok-clause-flow
returns-in-Ok-clause-flow g c =
    ap state_core_of c.new-in-Ok.ensures.hub ∙ c.new-hub.ensures.core ∙ c.new.ensures ∙ ap (first_state_flow c.args.limit) c.in-Ok.ensures.copy

pub returns-in-Ok-clause-initial : goal.returns-in-Ok-clause-initial
returns-in-Ok-clause-initial g c = ap reset_value c.new-in-Ok.ensures.hub ∙ c.new-hub.ensures.initial

pub returns-in-Ok-clause-chain : goal.returns-in-Ok-clause-chain
returns-in-Ok-clause-chain g c = c.new-in-Ok.ensures.chain

pub returns-in-Err-clause-refused : goal.returns-in-Err-clause-refused
returns-in-Err-clause-refused g c = ap Flow c.in-Err.ensures.memory
