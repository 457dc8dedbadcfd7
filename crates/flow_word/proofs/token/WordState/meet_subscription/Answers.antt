use Rattle.std.proofs.Common.{◌∙◌, sym, subst}
use Rattle.flow_law.specs.flow.StateFlow.{IsStateHistory}
use Rattle.flow_word.specs.View.{begun, only_in_view}
use Rattle.flow_word.specs.Steps.{HasGot}
use Rattle.flow_word.specs.Tokens.{WordToken}
use Rattle.flow_word.proofs.Subscribing.{has_grown}
use Rattle.flow_word.proofs.token.WordState.meet_subscription.Goals as goal

pub invariant_of-subscription : goal.invariant_of-subscription
invariant_of-subscription g c =
    let packs = g.T.Packed.packs in let value_of = g.T.Packed.value_of in let s = c.subscription.inside in let old = only_in_view s.seat.me.0 in let m = c.meet_by.ensures.met in
    let is = subst (λ z. IsStateHistory z m.history) (sym c.meet_by.ensures.began) m.is_history in
    let grown = has_grown packs value_of (begun value_of old.start) old.knows s.number s.last m.history is m.fits_one c.subscription.invariant.2 in (
      c.meet_by.ensures.idle.0,
      c.meet_by.ensures.subscriber ∙ c.subscription.invariant.1,
      subst (λ (z : WordToken g.row.T.Denot). HasGot packs value_of (begun value_of z.table_id.start) z.knows s.number s.last) (sym m.sees_one) grown,
    )
