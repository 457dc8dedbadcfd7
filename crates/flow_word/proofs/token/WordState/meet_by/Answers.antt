use Rattle.std.proofs.Common.{rules, ◌≡◌, List, [], ◌∷◌, ◌++◌, map, sym, ap, subst, ◌∙◌}
use Rattle.std.specs.List.{AllByRecursion}
use Rattle.atomic_table.specs.Table.{Me}
use Rattle.atomic_table.specs.declared.shared.Seat.{Seat}
use Rattle.flow_law.specs.declared.states.StateFlowState.{StateFlowState}
use Rattle.flow_law.specs.history.Growth.{Fits, sees}
use Rattle.flow_law.specs.flow.StateFlow.{IsStateHistory}
use Rattle.flow_law.specs.history.Tokens.{token}
use Rattle.flow_word.specs.declared.view.Known.{Known}
use Rattle.flow_word.specs.View.{begun, only_in_view, with_knows, first_in_view, others_in_view}
use Rattle.flow_word.specs.Tokens.{word_id}
use Rattle.flow_word.proofs.SeatSteps.{blanks, joins, observing, parts}
use Rattle.flow_word.proofs.token.WordState.meet_by.Goals as goal
use Rattle.flow_word.proofs.token.WordState.meet_by.Goals.{After-join_seat}

pub split_seat-blank-requires : goal.split_seat-blank-requires
split_seat-blank-requires g c = (search rules, search rules, blanks _ _ _ _ _ _)

pub join_seat-requires : goal.join_seat-requires
join_seat-requires g c =
    let same = c.split_seat-blank.ensures.2 in
    let other = ap (λ (z : Seat Unit (List (Known g.row.T.Denot))). z.me) c.replace-taken.ensures.value in (
      search rules,
      search rules,
      search rules,
      search rules,
      joins _ _ _ _ _ _ _ _ (subst (λ (m : Me Unit (List (Known g.row.T.Denot))). m.0 ≡ only_in_view m.0 ∷ []) (sym same) (ap (λ m. m.0) c.requires.idle.0)) (subst (λ (m : Me Unit (List (Known g.row.T.Denot))). m.0 ≡ only_in_view m.0 ∷ []) (sym other) (ap (λ m. m.0) c.requires.idle.1)),
    )

-- both tokens are in one view
joined_is : (g : _) (c : After-join_seat g) → c.join_seat.new.seat.me.0 ≡ only_in_view c.args.one.now.me.0 ∷ only_in_view c.args.other.now.me.0 ∷ []
joined_is g c =
    let other = ap (λ (z : Seat Unit (List (Known g.row.T.Denot))). z.me) c.replace-taken.ensures.value in
    ap (λ m. m.0) c.join_seat.ensures.2 ∙ ((λ i. (c.split_seat-blank.ensures.2 i).0 ++ (other i).0) ∙ (λ i. (c.requires.idle.0 i).0 ++ (c.requires.idle.1 i).0))

pub load-requires : goal.load-requires
load-requires g c = (search rules, search rules, observing _ _ _ _ _ _ _ _ _ (joined_is g (goal.at.load-requires g c).After-join_seat))

pub split_seat-requires : goal.split_seat-requires
split_seat-requires g c =
    let told = c.load.ensures.2 in let is = joined_is g (goal.at.split_seat-requires g c).After-join_seat in
    (search rules, search rules, parts _ _ _ _ _ _ _ _ (ap (λ (m : Me Unit (List (Known g.row.T.Denot))). m.0) told.4 ∙ ap (map (with_knows (sees told.0))) is))

pub returns-clause-met : goal.returns-clause-met
returns-clause-met g c =
    let value_of = g.T.Packed.value_of in let told = c.load.ensures.2 in let h = told.0 in let a = only_in_view c.args.one.now.me.0 in let b = only_in_view c.args.other.now.me.0 in
    let is = joined_is g (goal.at.returns-clause-met g c).After-join_seat in let seen = ap (λ (m : Me Unit (List (Known g.row.T.Denot))). m.0) told.4 ∙ ap (map (with_knows (sees h))) is in
    let table = c.load.ensures.0 ∙ (c.join_seat.ensures.0 ∙ c.split_seat-blank.ensures.0) in
    let fit = subst (AllByRecursion (λ (x : Known g.row.T.Denot). Fits h x.knows)) is told.3 in
    let first = ap (λ l. begun value_of (only_in_view l).start) is ∙ (ap (λ z. begun value_of z.start) c.requires.flow.0 ∙ (ap (λ z. begun value_of z.table_id.start) (sym c.self.view_is) ∙ ap (λ z. z.first) c.self.view_is)) in record {
      history = h;
      timed = told.2;
      is_history = subst (λ (z : StateFlowState g.row.T.Denot). IsStateHistory z h) first told.1;
      fits_one = fit.0;
      fits_other = fit.1.0;
      sees_one = (λ i. token (word_id (c.split_seat.ensures.0 i) (only_in_view (c.split_seat.ensures.2 i).0).start) (only_in_view (c.split_seat.ensures.2 i).0).knows)
          ∙ (λ i. token (word_id (table i) (only_in_view (first_in_view (seen i))).start) (only_in_view (first_in_view (seen i))).knows);
      sees_other = (λ i. token (word_id (c.split_seat.ensures.3 i) (only_in_view (c.split_seat.ensures.4 i).0).start) (only_in_view (c.split_seat.ensures.4 i).0).knows)
          ∙ (λ i. token (word_id ((table ∙ ap (λ z. z.table) (c.requires.flow.0 ∙ sym c.requires.flow.1)) i) (only_in_view (others_in_view (seen i))).start) (only_in_view (others_in_view (seen i))).knows);
    }

pub returns-clause-idle : goal.returns-clause-idle
returns-clause-idle g c =
    let told = c.load.ensures.2 in let h = told.0 in let seen = ap (λ (m : Me Unit (List (Known g.row.T.Denot))). m.0) told.4 ∙ ap (map (with_knows (sees h))) (joined_is g (goal.at.returns-clause-idle g c).After-join_seat) in
    let slots = ap (λ (m : Me Unit (List (Known g.row.T.Denot))). m.1) told.4 ∙ (ap (λ (m : Me Unit (List (Known g.row.T.Denot))). m.1) c.join_seat.ensures.2 ∙ (ap (λ (m : Me Unit (List (Known g.row.T.Denot))). m.1) c.split_seat-blank.ensures.2 ∙ ap (λ (m : Me Unit (List (Known g.row.T.Denot))). m.1) c.requires.idle.0)) in (
      c.split_seat.ensures.2 ∙ ((λ i. (first_in_view (seen i), slots i)) ∙ sym ((λ i. (only_in_view (c.split_seat.ensures.2 i).0 ∷ [], [])) ∙ (λ i. (only_in_view (first_in_view (seen i)) ∷ [], [])))),
      c.split_seat.ensures.4 ∙ ((λ i. (others_in_view (seen i), [])) ∙ sym ((λ i. (only_in_view (c.split_seat.ensures.4 i).0 ∷ [], [])) ∙ (λ i. (only_in_view (others_in_view (seen i)) ∷ [], [])))),
    )

pub returns-clause-subscriber : goal.returns-clause-subscriber
returns-clause-subscriber g c =
    let told = c.load.ensures.2 in let seen = ap (λ (m : Me Unit (List (Known g.row.T.Denot))). m.0) told.4 ∙ ap (map (with_knows (sees told.0))) (joined_is g (goal.at.returns-clause-subscriber g c).After-join_seat) in
    ap (λ m. (only_in_view m.0).subscriber) c.split_seat.ensures.2 ∙ ap (λ v. (only_in_view (first_in_view v)).subscriber) seen

pub returns-clause-began : goal.returns-clause-began
returns-clause-began g c =
    let value_of = g.T.Packed.value_of in
    ap (λ z. begun value_of z.start) c.requires.flow.0 ∙ (ap (λ z. begun value_of z.table_id.start) (sym c.self.view_is) ∙ ap (λ z. z.first) c.self.view_is)
