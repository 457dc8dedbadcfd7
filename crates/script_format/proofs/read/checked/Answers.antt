use Rattle.std.proofs.Common.{rules, ◌≡◌, Ok, Err, List, sym, ap, subst, ◌∙◌}
use Rattle.serde_json.specs.View.{items_view}
use Rattle.script_format.specs.Actions.{Action, actions_of, heads_of}
use Rattle.script_format.specs.Checks.{Checked, checked, nothing_named, script_result, steps_of}
use Rattle.script_chain_format.specs.Results.{Gives, result_map}
use Rattle.script_format.proofs.ReadLemmas.{checked_is, too_long_is}
use Rattle.script_chain_format.proofs.ResultLemmas.{gives_err}
use Rattle.script_format.proofs.read.checked.Goals as goal

pub returns-then-steps-gt-MOST_STEPS : goal.returns-then-steps-gt-MOST_STEPS
returns-then-steps-gt-MOST_STEPS c = too_long_is c.args.version (heads_of c.args.flows.items) c.args.steps.now c.if-steps-gt-MOST_STEPS.true

pub returns : goal.returns
returns c =
    let with_flows : List Action → Checked = λ steps. record { flows = heads_of c.args.flows.items; steps = steps } in
    let is = subst (λ flows. steps_of c.args.version (heads_of flows) 1 (nothing_named (heads_of flows)) (items_view c.args.steps.now) ≡ Ok (actions_of c.in_ok-steps.steps.items)) c.as_slice.ensures.value c.in_ok-steps.ensures in
    checked_is c.args.version (heads_of c.args.flows.items) c.args.steps.now c.if-steps-gt-MOST_STEPS.false ∙ ap (result_map with_flows) is

pub returns-in_err-steps : goal.returns-in_err-steps
returns-in_err-steps c =
    let whole = checked c.args.version (heads_of c.args.flows.items, items_view c.args.steps.now) in
    let is : c.from_residual.result ≡ Err c.in_err-steps.field-0.0 = search rules in
    subst (λ r. Gives whole (script_result r)) (sym is) (gives_err _ whole c.in_err-steps.field-0.0 c.in_err-steps.ensures (λ f e.
    let with_flows : List Action → Checked = λ steps. record { flows = heads_of c.args.flows.items; steps = steps } in
    let same = subst (λ flows. steps_of c.args.version (heads_of flows) 1 (nothing_named (heads_of flows)) (items_view c.args.steps.now) ≡ Err f) c.as_slice.ensures.value e in
    checked_is c.args.version (heads_of c.args.flows.items) c.args.steps.now c.if-steps-gt-MOST_STEPS.false ∙ ap (result_map with_flows) same))
