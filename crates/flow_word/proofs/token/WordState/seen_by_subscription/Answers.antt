use Rattle.std.proofs.Common.{List, refl, sym, subst}
use Rattle.std.specs.Prelude.{IsSome}
use Rattle.atomic_table.specs.Table.{Me}
use Rattle.flow_law.specs.declared.states.StateFlowState.{StateFlowState}
use Rattle.flow_law.specs.flow.StateFlow.{state_after_all}
use Rattle.flow_law.specs.laws.Current.{IsThere}
use Rattle.flow_word.specs.declared.view.Known.{Known}
use Rattle.flow_word.specs.View.{begun, only_in_view}
use Rattle.flow_law.proofs.RealTimeLemmas.{in_real_time}
use Rattle.flow_law.proofs.SeenLemmas.{history_conflates, history_converges}
use Rattle.flow_word.proofs.token.WordState.seen_by_subscription.Goals as goal

pub returns-clause-conflated : goal.returns-clause-conflated
returns-clause-conflated g c = history_conflates _ _ c.look.ensures.history

pub returns-clause-current : goal.returns-clause-current
returns-clause-current g c = history_converges _ _ c.look.ensures.history

pub returns-clause-subscribed : goal.returns-clause-subscribed
returns-clause-subscribed g c =
    let value_of = g.T.Packed.value_of in let s = c.subscription.inside in
    let there : IsThere s.number (state_after_all (begun value_of (only_in_view s.seat.me.0).start) (only_in_view s.seat.me.0).knows.seen) = subst (λ o. IsSome o) (sym c.subscription.invariant.2.got) refl in
    subst (λ (z : StateFlowState g.row.T.Denot × Me Unit (List (Known g.row.T.Denot))). IsThere s.number (state_after_all z.0 (only_in_view z.1.0).knows.seen)) (λ i. (c.look.ensures.began i, sym c.look.ensures.same.0 i)) there

pub returns-clause-in_real_time : goal.returns-clause-in_real_time
returns-clause-in_real_time g c = in_real_time _ c.look.ensures.timed
