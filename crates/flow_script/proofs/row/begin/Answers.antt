use Rattle.std.proofs.Common.{Some, None, [], sym, ap, subst, ◌∙◌}
use Rattle.std.specs.Prelude.{option_and_then}
use Rattle.script_format.specs.Actions.{heads_of, named_head}
use Rattle.flow_script.specs.Cases.{row_from}
use Rattle.flow_script.specs.Rows.{AddsFlow, ShowsRow}
use Rattle.flow_script.specs.Said.{all_not_made}
use Rattle.flow_script.specs.ScriptMeaning.{after_refusals, script_from}
use Rattle.flow_script.proofs.PlayLemmas.{none-left}
use Rattle.flow_script.proofs.row.begin.Goals as goal

pub loop-named-init : goal.loop-named-init
loop-named-init c = (
  [],
  subst (λ l. ShowsRow l []) (sym c.new-row.ensures.items) tt,
  ap (λ l. row_from (heads_of l) []) (sym c.into_iter-named-iterator.ensures.into_iter_gives.0),
  λ steps. ap (λ l. after_refusals (all_not_made c.args.not_made.now.items) (script_from (heads_of l) steps [])) (sym c.into_iter-named-iterator.ensures.into_iter_gives.0),
)

pub loop-named-preserved : goal.loop-named-preserved
loop-named-preserved c =
    let whole = c.loop-named.invariant in
    let row = whole.0 in
    let before = all_not_made c.loop-named.not_made.items in
    let after = all_not_made c.add_flow.new.not_made.items in
    let rest = heads_of c.next.new.self.rest.items in
    let adds = subst (λ goes. AddsFlow (named_head c.in-Some.named) goes c.loop-named.row.items c.add_flow.new.row.items before after) c.if-not-branch.false c.in_ok-add_flow.ensures.adds in
    let one = adds row whole.1 in (
      one.0,
      one.1,
      whole.2 ∙ ap (λ l. row_from (heads_of l) row) c.in-Some.ensures.steps.0 ∙ ap (option_and_then (row_from rest)) one.2,
      λ steps. whole.3 steps ∙ ap (λ l. after_refusals before (script_from (heads_of l) steps row)) c.in-Some.ensures.steps.0 ∙ one.3 (script_from rest steps),
    )

pub returns-then-not-branch-clause-begins : goal.returns-then-not-branch-clause-begins
returns-then-not-branch-clause-begins c =
    let whole = c.loop-named.invariant in
    let row = whole.0 in
    let before = all_not_made c.loop-named.not_made.items in
    let after = all_not_made c.add_flow.new.not_made.items in
    let rest = heads_of c.next.new.self.rest.items in
    let ends = subst (λ goes. AddsFlow (named_head c.in-Some.named) goes c.loop-named.row.items c.add_flow.new.row.items before after) c.if-not-branch.true c.in_ok-add_flow.ensures.adds in (
      whole.2 ∙ ap (λ l. row_from (heads_of l) row) c.in-Some.ensures.steps.0 ∙ ap (option_and_then (row_from rest)) (ends row).0,
      λ steps. whole.3 steps ∙ ap (λ l. after_refusals before (script_from (heads_of l) steps row)) c.in-Some.ensures.steps.0 ∙ (ends row).1 (script_from rest steps),
    )

pub returns-clause-begins : goal.returns-clause-begins
returns-clause-begins c =
    let whole = c.loop-named.invariant in
    let row = whole.0 in
    let left = c.loop-named.named-iterator.rest in
    let over = none-left left.items (sym left.ok.0 ∙ c.in-None.ensures.steps.0) in (
      row,
      whole.1,
      whole.2 ∙ ap (λ l. row_from (heads_of l) row) over,
      λ steps. whole.3 steps ∙ ap (λ l. after_refusals (all_not_made c.loop-named.not_made.items) (script_from (heads_of l) steps row)) over,
    )
