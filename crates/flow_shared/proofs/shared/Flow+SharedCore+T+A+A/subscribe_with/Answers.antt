use Rattle.std.proofs.Common.{◌≡◌, ◌⊎◌, ℕ, List, Err, IfErr, sym, ap, ◌∙◌, subst}
use Rattle.std.proofs.lemmas.Result.{err_from_is_err_and}
use Rattle.flow_law.specs.declared.fault.FlowFault.TheVariants.{OutOfMemory, Exhausted}
use Rattle.flow_law.specs.history.History.{IsSubscription, fault_alone}
use Rattle.flow_law.specs.history.Tokens.{subscription_name}
use Rattle.flow_law.specs.flow.SharedHistory.{shared_flow}
use Rattle.flow_law.specs.declared.call.SharedCall.TheVariants as call
use Rattle.flow_law.proofs.SharedLawful.{shared_lawful, shared_subscribing}
use Rattle.flow_law.proofs.TokenLemmas.{subscription_made}
use Rattle.flow_core.specs.SharedCore.{subscribe_reply}
use Rattle.flow_core.specs.SubId.{number_of}
use Rattle.flow_shared.specs.SharedReplies.{SharedCalls}
use Rattle.flow_shared.proofs.Refusals.{subscribe_fault}
use Rattle.flow_shared.proofs.shared.Flow+SharedCore+T+A+A.subscribe_with.Goals as goal

pub invariant_of-result : goal.invariant_of-result
invariant_of-result g c =
    let n = number_of c.in_ok-id.id in
    let first = c.args.first.items in
    let made = subscription_made shared_flow shared_lawful (λ (name : List ℕ). call.Subscribe name first) (shared_subscribing first) c.args.self.now.first c.args.seat.now.knows c.call.new.seat.knows n c.in_ok-id.ensures.called.1 in
    subst (λ t. IsSubscription shared_flow t.knows n) (sym c.seat-made.ensures.made) made

pub returns-in_err-id-clause-refused : goal.returns-in_err-id-clause-refused
returns-in_err-id-clause-refused g c =
    let before = c.args.seat.now in let name = subscription_name before.knows in let first = c.args.first.items in
    let given = err_from_is_err_and c.from_residual.result c.from_residual.ensures.1 in
    let called = subst (λ r. SharedCalls c.args.self.now before (call.Subscribe name first) (subscribe_reply (fault_alone r)) c.call.new.seat) (c.in_err-id.was ∙ ap Err (sym given.2)) c.call.ensures.called in
    subst (λ r. IfErr r (λ refused. (refused.fault ≡ OutOfMemory) ⊎ (refused.fault ≡ Exhausted))) (sym given.1) (subscribe_fault c.args.self.now before c.call.new.seat name first given.0.fault called)
