use Rattle.std.proofs.Common.{subst, arith}
use Rattle.flow_law.specs.declared.call.SharedCall.TheVariants as call
use Rattle.flow_law.specs.declared.call.SharedReply.TheVariants as reply
use Rattle.flow_law.specs.flow.SharedHistory.{shared_flow}
use Rattle.flow_law.specs.history.Promise.{CallsIn}
use Rattle.std.specs.Prelude.{true}
use Rattle.flow_word_shared.specs.Tokens.{WordFlowNumbered, ring_token}
use Rattle.flow_word_shared.proofs.Told.{placed_new}
use Rattle.flow_word_shared.proofs.token.WordFlow.unsubscribe.Goals as goal

pub leave-requires-clause-subscribed : goal.leave-requires-clause-subscribed
leave-requires-clause-subscribed g c =
    let s = c.subscription.inside in let r = c.subscription.invariant.0.0 in ((r.0, r.1, r.2, omega arith), placed_new s.place s.seat s.seen c.subscription.invariant.0.1)

pub returns : goal.returns
returns g c =
    subst (λ (n : WordFlowNumbered g.row.T.Denot). CallsIn shared_flow c.args.self.now.first n.token (call.Unsubscribe n.number) (reply.Tested true) (ring_token c.leave.new.seat)) c.subscription.view_is c.leave.ensures.called.0
