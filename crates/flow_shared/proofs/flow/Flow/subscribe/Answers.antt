use Rattle.std.proofs.Common.{◌≡◌, ◌⊎◌, Result, Err, IfErr, sym, ap, ◌∙◌, subst}
use Rattle.std.proofs.lemmas.Result.{err_from_is_err_and}
use Rattle.flow_law.specs.declared.fault.FlowFault.{FlowFault}
use Rattle.flow_law.specs.declared.fault.FlowFault.TheVariants.{OutOfMemory, Exhausted}
use Rattle.flow_law.specs.history.History.{IsSubscription, replied}
use Rattle.flow_law.specs.history.Tokens.{subscription_name}
use Rattle.flow_core.specs.SubId.{number_of}
use Rattle.flow_shared.specs.Calls.{Calls}
use Rattle.flow_law.proofs.TokenLemmas.{subscription_made, subscribe_fault}
use Rattle.flow_shared.proofs.flow.Flow.subscribe.Goals as goal

pub invariant_of-result : goal.invariant_of-result
invariant_of-result g c =
    let n = number_of c.in_ok-id.id in
    let made = subscription_made g.S.FlowCore.kind g.S.FlowCore.lawful g.S.FlowCore.kind.subscribe g.S.FlowCore.lawful.subscribing c.args.self.now.first c.args.seat.now.knows c.call.new.seat.knows n c.in_ok-id.ensures.called.1 in
    subst (λ t. IsSubscription g.S.FlowCore.kind t.knows n) (sym c.seat-made.ensures.made) made

pub returns-in_err-id-clause-refused : goal.returns-in_err-id-clause-refused
returns-in_err-id-clause-refused g c =
    let kind = g.S.FlowCore.kind in let before = c.args.seat.now in let name = subscription_name before.knows in
    let given = err_from_is_err_and c.from_residual.result c.from_residual.ensures.1 in
    let called = subst (λ r. Calls kind c.args.self.now before (kind.subscribe name) (replied kind (λ id. kind.subscribed (number_of id)) r) c.call.new.seat) (c.in_err-id.was ∙ ap Err (sym given.2)) c.call.ensures.called in
    subst (λ (r : Result _ FlowFault). IfErr r (λ fault. (fault ≡ OutOfMemory) ⊎ (fault ≡ Exhausted))) (sym given.1)
    (subscribe_fault kind g.S.FlowCore.lawful c.args.self.now.first before.knows c.call.new.seat.knows name given.0 called.1)
