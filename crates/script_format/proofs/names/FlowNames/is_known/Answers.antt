use Rattle.std.proofs.Common.{◌||◌, sym, ap, ◌∙◌}
use Rattle.script_format.proofs.NameLemmas.{known-is, has_text}
use Rattle.script_format.proofs.names.FlowNames.is_known.Goals as goal

pub returns-then-contains : goal.returns-then-contains
returns-then-contains c =
    let name = c.args.name.now in
    let names = c.args.self.now in
    c.if-contains.true ∙ sym (ap (λ b. b || has_text name names.subscribers.keys) (sym c.contains.ensures ∙ c.if-contains.true))
    ∙ sym (known-is name names.emissions.keys names.subscribers.keys)

pub returns-else-contains : goal.returns-else-contains
returns-else-contains c =
    let name = c.args.name.now in
    let names = c.args.self.now in
    c.contains-else-contains.ensures ∙ sym (ap (λ b. b || has_text name names.subscribers.keys) (sym c.contains.ensures ∙ c.if-contains.false))
    ∙ sym (known-is name names.emissions.keys names.subscribers.keys)
