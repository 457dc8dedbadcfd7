use Rattle.std.proofs.Common.{rules, arith, ◌≡◌, Err, sym, ap, subst, ◌∙◌}
use Rattle.serde_json.specs.View.{items_view}
use Rattle.script_chain_format.specs.Results.{Gives}
use Rattle.script_format.specs.Actions.{action_of, actions_of, heads_of}
use Rattle.script_format.specs.Checks.{steps_of, steps_result, nothing_named}
use Rattle.script_format.specs.Names.{name_rows}
use Rattle.script_format.proofs.NameLemmas.{map-snoc}
use Rattle.script_chain_format.proofs.ResultLemmas.{gives_err}
use Rattle.script_format.proofs.ReadLemmas.{steps_err, steps_more}
use Rattle.script_format.proofs.read.steps_of.Goals as goal

pub returns-in_err-step : goal.returns-in_err-step
returns-in_err-step c =
    let flows = heads_of c.args.flows.now in
    let whole = steps_of c.args.version flows 1 (nothing_named flows) (items_view c.args.steps.now) in
    let is : c.from_residual-in_err-step.result ≡ Err c.in_err-step.field-0.0 = search rules in
    subst (λ r. Gives whole (steps_result r)) (sym is)
    (gives_err _ whole c.in_err-step.field-0.0 c.in_err-step.ensures (λ f is.
    steps_err c.args.version flows c.args.steps.now c.loop-index.index c.index-steps-index.result (name_rows c.loop-index.names) (actions_of c.loop-index.checked.items) _ f (omega arith)
    c.index-steps-index.is is c.loop-index.invariant))

pub loop-index-preserved : goal.loop-index-preserved
loop-index-preserved c =
    steps_more c.args.version (heads_of c.args.flows.now) c.args.steps.now c.loop-index.index c.index-steps-index.result (name_rows c.loop-index.names) (name_rows c.step_of.new.names)
    (actions_of c.loop-index.checked.items) (actions_of c.push.new.self.items) (action_of c.in_ok-step.step) _ (omega arith) c.index-steps-index.is c.in_ok-step.ensures
    (ap actions_of c.in_ok-push.ensures.items ∙ map-snoc action_of c.loop-index.checked.items c.in_ok-step.step) c.loop-index.invariant
