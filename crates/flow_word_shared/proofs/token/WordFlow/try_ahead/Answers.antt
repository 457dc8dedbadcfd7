use Rattle.std.proofs.Common.{◌*◌, sym, ap, subst, arith}
use Rattle.flow_law.specs.declared.call.SharedCall.TheVariants as call
use Rattle.flow_law.specs.declared.call.SharedReply.TheVariants as reply
use Rattle.flow_law.specs.declared.outcome.Next.TheVariants.{Value}
use Rattle.flow_law.specs.flow.SharedHistory.{shared_flow}
use Rattle.flow_law.specs.history.Promise.{CallsAtOnceIn}
use Rattle.flow_word_shared.specs.Answers.{IsOverrun}
use Rattle.flow_word_shared.specs.Tokens.{WordFlowNumbered, ring_token}
use Rattle.flow_word_shared.proofs.Cells.{fit_ahead}
use Rattle.flow_word_shared.proofs.Told.{saw_then, saw_overrun}
use Rattle.flow_word_shared.proofs.token.WordFlow.try_ahead.Goals as goal

pub returns-in-Ok-clause-called : goal.returns-in-Ok-clause-called
returns-in-Ok-clause-called g c =
    let more = c.if-seen-position.false in
    subst (λ (z : WordFlowNumbered g.row.T.Denot). CallsAtOnceIn shared_flow c.args.self.now.first z.token (call.TakeNext z.number) (reply.Received (Value c.in-Ok.value)) (ring_token c.read_ahead.new.seat)) c.subscription.view_is
    (saw_then c.args.self.now.first _ _ _ _ _ (c.look.ensures.more (omega (arith, more))) c.in-Ok.ensures.fresh.0)

pub returns-in-Err-clause-late : goal.returns-in-Err-clause-late
returns-in-Err-clause-late g c = λ _.
    let more = c.if-seen-position.false in
    subst (λ (n : WordFlowNumbered g.row.T.Denot). IsOverrun n.token (ring_token c.read_ahead.new.seat)) c.subscription.view_is
    (saw_overrun _ _ _ (c.look.ensures.more (omega (arith, more))) c.in-Err.ensures.late.0)

pub read_ahead-requires-clause-fits : goal.read_ahead-requires-clause-fits
read_ahead-requires-clause-fits g c =
    let fit = fit_ahead c.min-count.result c.WIDTH.result (omega (arith, c.min-count.ensures, c.min.ensures)) in let same = ap (λ w. c.min-count.result * w) (sym c.WIDTH.ensures) in
    (c.look.ensures.small, omega (arith, fit, same))
