use Rattle.std.proofs.Common.{◌≡◌, rules, string_bytes, sym, ap, subst, ◌∙◌}
use Rattle.serde_json.specs.View.{view, members_view}
use Rattle.script_format.specs.Actions.{heads_of}
use Rattle.script_chain_format.specs.Results.{Gives}
use Rattle.script_format.specs.Flows.{flows_after, named_flow, no_flows_of, with_named_flow}
use Rattle.script_format.specs.HeadViews.{flows_result, named_flow_result}
use Rattle.script_format.proofs.FlowsLemmas.{flows-begin, flows-final}
use Rattle.script_chain_format.proofs.ResultLemmas.{final-whole}
use Rattle.script_format.proofs.read_flows.named_flows.Goals as goal

pub loop-name-init : goal.loop-name-init
loop-name-init c =
    let begins : c.into_iter-name-iterator.result ≡ c.args.members.now.entries = search rules in (
      no_flows_of c.len.result,
      c.no_flows_of-flows.ensures,
      flows-begin c.args.members.now.entries c.into_iter-name-iterator.result c.len.result c.len.ensures.len begins c.iter-name-items.ensures.ordered,
    )

pub returns-then-is_final : goal.returns-then-is_final
returns-then-is_final c =
    let before = c.loop-name.invariant in
    let left = members_view c.loop-name.name-iterator in
    final-whole (λ flows. heads_of flows.items) before.0 _ c.loop-name.flows before.1 (sym c.is_final.ensures ∙ c.if-is_final.true)
    (λ fault first is. sym before.2 ∙ ap (λ r. flows_after r left) is ∙ flows-final fault left first)

pub loop-name-preserved : goal.loop-name-preserved
loop-name-preserved c =
    let before = c.loop-name.invariant in
    let name = string_bytes c.in-Some.name.now in
    let d = view c.in-Some.flow.now in
    let read = subst (λ n. Gives (named_flow n d) (named_flow_result c.named_flow.result)) c.as_str.ensures.value c.named_flow.ensures in (
      with_named_flow before.0 (named_flow name d),
      c.with_flow-flows.ensures before.0 (named_flow name d) before.1 read,
      ap (λ l. flows_after before.0 (members_view l)) (sym c.in-Some.ensures.steps) ∙ before.2,
    )

pub returns : goal.returns
returns c =
    let before = c.loop-name.invariant in
    subst (λ m. Gives m (flows_result c.loop-name.flows)) (ap (λ l. flows_after before.0 (members_view l)) (sym c.in-None.ensures.steps.0) ∙ before.2) before.1
