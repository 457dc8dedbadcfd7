use Rattle.flow_core.proofs.shared.kind.SharedCoreSubscriberCalls.subscribe.Goals as goal

pub returns : goal.returns
returns g c = λ name. (c.subscribe.ensures.documented name).0
