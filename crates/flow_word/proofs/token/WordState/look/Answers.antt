use Rattle.std.proofs.Common.{rules, List, ap, sym, ◌∙◌, subst}
use Rattle.atomic_table.specs.Table.{Me}
use Rattle.flow_law.specs.declared.states.StateFlowState.{StateFlowState}
use Rattle.flow_law.specs.flow.StateFlow.{StateHistory, state_flow, IsStateHistory}
use Rattle.flow_law.specs.history.RealTime.{IsTimed}
use Rattle.flow_law.proofs.Owners.{history_left}
use Rattle.flow_law.proofs.RealTimeLemmas.{IsTimed-seen}
use Rattle.flow_word.specs.declared.view.Known.{Known}
use Rattle.flow_word.specs.View.{begun, only_in_view}
use Rattle.flow_word.proofs.SeatSteps.{looking}
use Rattle.flow_word.proofs.token.WordState.look.Goals as goal

pub load-requires : goal.load-requires
load-requires g c = (search rules, search rules, looking _ _ _ _ _ _ _ (ap (λ m. m.0) c.requires.idle))

pub returns-clause-began : goal.returns-clause-began
returns-clause-began g c =
    let value_of = g.T.Packed.value_of in
    ap (λ z. begun value_of z.start) c.requires.flow ∙ (ap (λ z. begun value_of z.table_id.start) (sym c.self.view_is) ∙ ap (λ z. z.first) c.self.view_is)

pub returns-clause-history : goal.returns-clause-history
returns-clause-history g c =
    let value_of = g.T.Packed.value_of in let told = c.load.ensures.2 in let grown = told.3.0 in let seen = (only_in_view c.args.seat.now.me.0).knows.seen in
    let first = ap (λ z. begun value_of z.start) c.requires.flow ∙ (ap (λ z. begun value_of z.table_id.start) (sym c.self.view_is) ∙ ap (λ z. z.first) c.self.view_is) in
    let whole = subst (λ (z : StateFlowState g.row.T.Denot × StateHistory g.row.T.Denot). IsStateHistory z.0 z.1) (λ i. (first i, grown.1 i)) told.1 in
    subst (λ (m : Me Unit (List (Known g.row.T.Denot))). IsStateHistory c.args.self.now.first (only_in_view m.0).knows.seen) (sym told.4) (history_left state_flow c.args.self.now.first seen grown.0 whole)

pub returns-clause-timed : goal.returns-clause-timed
returns-clause-timed g c =
    let told = c.load.ensures.2 in let knows = (only_in_view c.args.seat.now.me.0).knows in
    subst (λ (m : Me Unit (List (Known g.row.T.Denot))). IsTimed (only_in_view m.0).knows.seen) (sym told.4) (IsTimed-seen knows.name knows.seen told.0 told.3.0 told.2)
