use Rattle.std.proofs.Common.{rules, List, ap, sym, ◌∙◌, subst}
use Rattle.atomic_table.specs.Table.{Me}
use Rattle.flow_law.specs.declared.states.SharedFlowState.{SharedFlowState}
use Rattle.flow_law.specs.history.History.{IsHistory}
use Rattle.flow_law.specs.flow.SharedHistory.{History, shared_flow}
use Rattle.flow_law.specs.history.RealTime.{IsTimed}
use Rattle.flow_law.proofs.Owners.{history_left}
use Rattle.flow_law.proofs.RealTimeLemmas.{IsTimed-seen}
use Rattle.flow_word_shared.specs.declared.view.RingKnown.{RingKnown}
use Rattle.flow_word_shared.specs.View.{began_as, only}
use Rattle.flow_word_shared.proofs.SeatSteps.{looking_back}
use Rattle.flow_word_shared.proofs.token.WordFlow.look_back.Goals as goal

pub load-requires : goal.load-requires
load-requires g c = (search rules, search rules, looking_back _ _ _ _ _ _ _ (ap (λ m. m.0) c.requires.idle.0))

pub returns-clause-history : goal.returns-clause-history
returns-clause-history g c =
    let told = c.load.ensures.2 in let grown = told.3.0 in let seen = (only c.args.seat.now.me.0).knows.seen in
    let first = ap (λ z. began_as z.start) c.requires.flow ∙ (ap (λ z. began_as z.table_id.start) (sym c.self.view_is) ∙ ap (λ z. z.first) c.self.view_is) in
    let whole = subst (λ (z : SharedFlowState g.row.T.Denot × History g.row.T.Denot). IsHistory shared_flow z.0 z.1) (λ i. (first i, grown.1 i)) told.1 in
    subst (λ (m : Me Unit (List (RingKnown g.row.T.Denot))). IsHistory shared_flow c.args.self.now.first (only m.0).knows.seen) (sym told.4) (history_left shared_flow c.args.self.now.first seen grown.0 whole)

pub returns-clause-began : goal.returns-clause-began
returns-clause-began g c = ap (λ z. began_as z.start) c.requires.flow ∙ (ap (λ z. began_as z.table_id.start) (sym c.self.view_is) ∙ ap (λ z. z.first) c.self.view_is)

pub returns-clause-timed : goal.returns-clause-timed
returns-clause-timed g c =
    let told = c.load.ensures.2 in let knows = (only c.args.seat.now.me.0).knows in
    subst (λ (m : Me Unit (List (RingKnown g.row.T.Denot))). IsTimed (only m.0).knows.seen) (sym told.4) (IsTimed-seen knows.name knows.seen told.0 told.3.0 told.2)
