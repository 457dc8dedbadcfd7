use Rattle.std.proofs.Common.{sym, subst}
use Rattle.flow_law.specs.declared.call.SharedCall.TheVariants as call
use Rattle.flow_law.specs.history.History.{fault_alone}
use Rattle.flow_law.specs.flow.SharedHistory.{shared_flow}
use Rattle.flow_law.specs.flow.Standing.{Documents, StandsFor}
use Rattle.flow_core.specs.SharedCore.{subscribe_reply}
use Rattle.flow_shared.proofs.shared.shared_calls.SubscribeWithCoreCallSharedCore.run.Goals as goal

pub returns-clause-documented : goal.returns-clause-documented
returns-clause-documented g c = λ name.
    subst (λ m. Documents shared_flow StandsFor c.args.core.now (call.Subscribe name c.args.self.first.items) (subscribe_reply (fault_alone m.answer)) c.subscribe_with.new.self)
    (sym c.quiet.ensures) (c.subscribe_with.ensures.documented name).0
