use Rattle.flow_law.specs.history.History.{replied}
use Rattle.flow_law.specs.flow.StateFlow.{state_flow}
use Rattle.flow_law.specs.flow.Standing.{Documents}
use Rattle.std.specs.Prelude.{◌≡◌}
use Rattle.flow_core.specs.SubId.{number_of}
use Rattle.flow_core.proofs.TakingLemmas.{drains_none}
use Rattle.flow_core.proofs.state.kind.StateCoreSubscriberCalls.take_held.Goals as goal

pub returns-clause-taken : goal.returns-clause-taken
returns-clause-taken g c =
    drains_none (λ old answer new. Documents state_flow (λ core s. core ≡ s) old (state_flow.take_next (number_of c.args._id)) (replied state_flow state_flow.received answer) new)
    c.args.self.now c.args._values.now.items
