use Rattle.std.proofs.Common.{true, subst}
use Rattle.flow_core.specs.SubId.{number_of}
use Rattle.flow_shared.specs.Calls.{Calls}
use Rattle.flow_law.proofs.TokenLemmas.{was_there}
use Rattle.flow_shared.proofs.flow.Flow.unsubscribe.Goals as goal

pub returns : goal.returns
returns g c =
    let n = number_of c.subscription.inside.id in
    let own = c.subscription.inside.seat in
    let yes_it_was = was_there g.S.FlowCore.kind g.S.FlowCore.lawful c.args.self.now.first own.knows c.call-was_there.new.seat.knows n c.call-was_there.result c.call-was_there.ensures.called.1 c.subscription.invariant in
    subst (λ z. Calls g.S.FlowCore.kind c.args.self.now z.token (g.S.FlowCore.kind.unsubscribe z.number) (g.S.FlowCore.kind.tested true) c.call-was_there.new.seat) c.subscription.view_is
    (subst (λ a. Calls g.S.FlowCore.kind c.args.self.now own (g.S.FlowCore.kind.unsubscribe n) (g.S.FlowCore.kind.tested a) c.call-was_there.new.seat) yes_it_was c.call-was_there.ensures.called)
