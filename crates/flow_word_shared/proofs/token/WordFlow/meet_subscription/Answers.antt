use Rattle.std.proofs.Common.{◌≤◌, [], length, ap, sym, subst, ◌∙◌, arith}
use Rattle.flow_law.specs.history.History.{IsHistory}
use Rattle.flow_law.specs.flow.SharedHistory.{shared_flow}
use Rattle.flow_word_shared.specs.Steps.{IsAt, log_after}
use Rattle.flow_word_shared.specs.Tokens.{WordFlowToken}
use Rattle.flow_word_shared.specs.View.{only}
use Rattle.flow_word_shared.proofs.ReadSteps.{at_grows}
use Rattle.flow_word_shared.proofs.PlaceRule.{drops}
use Rattle.flow_word_shared.proofs.Told.{reads_as, placed_as, fits_emitted}
use Rattle.flow_word_shared.proofs.token.WordFlow.meet_subscription.Goals as goal

pub invariant_of-subscription : goal.invariant_of-subscription
invariant_of-subscription g c =
    let T = g.row.T.Denot in let s = c.subscription.inside in let old = only s.seat.me.0 in let m = c.meet_by.ensures.met in let r = c.subscription.invariant.0.0 in let began = c.meet_by.ensures.began in
    let is = subst (λ z. IsHistory shared_flow z m.history) (sym began.1) m.is_history in
    let at = at_grows old.start (drops old.start began.0) began.0.buffer old.knows.lost old.knows m.history s.number s.position is m.fits_one r.2 in (
      (
        (
          c.meet_by.ensures.idle.0,
          reads_as _ _ s.number s.position [] (c.meet_by.ensures.reads ∙ r.1),
          subst (λ (z : WordFlowToken T). IsAt z.table_id.start z.knows s.number s.position) (sym m.sees_one) at,
          subst (λ (z : WordFlowToken T). s.seen ≤ length (log_after z.table_id.start z.knows.seen)) (sym m.sees_one) (fits_emitted old.start old.knows m.history s.seen m.fits_one r.3),
        ),
        placed_as s.place s.seat c.meet_by.new.one s.seen c.meet_by.ensures.reads (ap (λ z. z.table_id.start) m.sees_one)
            (subst (λ (z : WordFlowToken T). length (log_after old.start old.knows.seen) ≤ length (log_after z.table_id.start z.knows.seen)) (sym m.sees_one) (fits_emitted old.start old.knows m.history (length (log_after old.start old.knows.seen)) m.fits_one (omega arith)))
            c.subscription.invariant.0.1,
      ),
      c.subscription.invariant.1,
      c.subscription.invariant.2,
    )
