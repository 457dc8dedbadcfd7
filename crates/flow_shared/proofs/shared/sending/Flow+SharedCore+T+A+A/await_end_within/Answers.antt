use Rattle.std.proofs.Common.{true, sym, ◌∙◌, subst}
use Rattle.flow_law.specs.declared.call.SharedCall.TheVariants as call
use Rattle.flow_law.specs.declared.call.SharedReply.TheVariants as reply
use Rattle.flow_law.specs.history.History.{emission}
use Rattle.flow_law.specs.flow.SharedHistory.{shared_flow}
use Rattle.flow_law.proofs.SharedLawful.{shared_lawful}
use Rattle.flow_law.proofs.TokenLemmas.{given_after}
use Rattle.flow_shared.specs.CoreCalls.{IsSleep, after_polling}
use Rattle.flow_shared.specs.SharedReplies.{SharedCalls}
use Rattle.flow_shared.specs.Sending.{not_polled, one_more}
use Rattle.flow_shared.proofs.shared.sending.Flow+SharedCore+T+A+A.await_end_within.Goals as goal

pub loop-init : goal.loop-init
loop-init g c = (tt, tt, c.requires.flow, c.requires.ready, c.requires.emission, not_polled)

pub loop-preserved : goal.loop-preserved
loop-preserved g c =
    let n = c.args.number in
    let waits = c.if-not-call.false in
    let called = subst (λ b. SharedCalls c.args.self.now c.loop.seat (call.Poll n) (reply.Tested b) c.call.new.seat) waits c.call.ensures.called in (
      tt,
      tt,
      called.0 ∙ c.loop.invariant.2,
      c.call.ensures.armed (subst (λ b. IsSleep (after_polling n b)) (sym waits) tt),
      given_after shared_flow shared_lawful c.args.self.now.first c.loop.seat.knows c.call.new.seat.knows _ _ called.1 (emission n) c.loop.invariant.4,
      one_more c.loop.invariant.5 called,
    )
