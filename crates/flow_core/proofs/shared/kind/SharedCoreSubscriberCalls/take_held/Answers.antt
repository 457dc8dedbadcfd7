use Rattle.flow_law.specs.flow.SharedHistory.{shared_flow}
use Rattle.flow_law.specs.flow.Standing.{StandsFor, Documents}
use Rattle.flow_law.specs.declared.call.SharedCall.TheVariants as call
use Rattle.flow_core.specs.SubId.{number_of}
use Rattle.flow_core.specs.SharedCore.{SharedCoreNexts, next_reply}
use Rattle.flow_core.proofs.TakingLemmas.{drains_lifted}
use Rattle.flow_core.proofs.shared.kind.SharedCoreSubscriberCalls.take_held.Goals as goal

pub returns-clause-taken : goal.returns-clause-taken
returns-clause-taken g c =
    let n = number_of c.args.id in
    drains_lifted (SharedCoreNexts n) (λ old answer new. Documents shared_flow StandsFor old (call.TakeNext n) (next_reply answer) new) (λ core. core) (λ before answer after documented. documented.0)
    c.take_held.result c.args.self.now c.take_held.new.self c.args.values.now.items c.take_held.new.values.items c.take_held.ensures.taken
