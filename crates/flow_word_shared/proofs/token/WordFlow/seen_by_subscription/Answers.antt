use Rattle.std.proofs.Common.{List, refl, sym, subst}
use Rattle.std.specs.Prelude.{IsSome}
use Rattle.atomic_table.specs.Table.{Me}
use Rattle.flow_law.specs.declared.states.SharedFlowState.{SharedFlowState}
use Rattle.flow_law.specs.flow.SharedFlow.{position_of}
use Rattle.flow_law.specs.flow.SharedHistory.{state_after}
use Rattle.flow_word_shared.specs.declared.view.RingKnown.{RingKnown}
use Rattle.flow_word_shared.specs.View.{only}
use Rattle.flow_law.proofs.RealTimeLemmas.{in_real_time}
use Rattle.flow_law.proofs.SeenLemmas.{history_admits, history_calm, history_delivers, history_lags, history_replays}
use Rattle.flow_word_shared.proofs.token.WordFlow.seen_by_subscription.Goals as goal

pub returns-clause-delivered : goal.returns-clause-delivered
returns-clause-delivered g c = history_delivers _ _ c.look_back.ensures.history

pub returns-clause-no_idle_queue : goal.returns-clause-no_idle_queue
returns-clause-no_idle_queue g c = history_calm _ _ c.look_back.ensures.history

pub returns-clause-admitted : goal.returns-clause-admitted
returns-clause-admitted g c = history_admits _ _ c.look_back.ensures.history

pub returns-clause-lagged : goal.returns-clause-lagged
returns-clause-lagged g c = history_lags _ _ c.look_back.ensures.history

pub returns-clause-replayed : goal.returns-clause-replayed
returns-clause-replayed g c = history_replays _ _ c.look_back.ensures.history

pub returns-clause-subscribed : goal.returns-clause-subscribed
returns-clause-subscribed g c =
    let s = c.subscription.inside in
    let there : IsSome (position_of s.number (state_after {T = g.row.T.Denot} (only s.seat.me.0).start.config (only s.seat.me.0).knows.seen).subscribers) = subst (λ o. IsSome o) (sym c.subscription.invariant.0.0.2.stands.place) refl in
    subst (λ (z : SharedFlowState g.row.T.Denot × Me Unit (List (RingKnown g.row.T.Denot))). IsSome (position_of s.number (state_after {T = g.row.T.Denot} z.0.config (only z.1.0).knows.seen).subscribers)) (λ i. (c.look_back.ensures.began i, sym c.look_back.ensures.same.0 i)) there

pub returns-clause-in_real_time : goal.returns-clause-in_real_time
returns-clause-in_real_time g c = in_real_time _ c.look_back.ensures.timed
