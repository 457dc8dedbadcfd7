use Rattle.std.proofs.Common.{◌≡◌, true, Some, ap, ◌∙◌}
use Rattle.std.specs.Prelude.{codes, option_and_then}
use Rattle.serde_json.specs.View.{view}
use Rattle.script_chain_format.specs.Members.{has_only, text_at, where_true}
use Rattle.script_format.specs.Format.{has_first, keys_in, verb_named}
use Rattle.script_format.proofs.read_step.verb_of.Goals as goal

pub returns-then-has_only : goal.returns-then-has_only
returns-then-has_only c =
    let step = view c.args.step.now in
    let verb = c.in_ok-verb.verb in
    let all : true ≡ has_only (keys_in c.args.version verb) step = c.if-has_only.ensures ∙ ap (λ keys. has_only keys step) c.keys.ensures in
    ap (λ t. where_true t (Some verb)) all
    ∙ ap (option_and_then (λ verb. where_true (has_only (keys_in c.args.version verb) step) (Some verb)))
    (c.in_ok-verb.ensures ∙ ap (verb_named c.in_ok-text.text.now) c.has_first.ensures
    ∙ ap (option_and_then (λ text. verb_named text (has_first c.args.version step))) c.in_ok-text.ensures)
