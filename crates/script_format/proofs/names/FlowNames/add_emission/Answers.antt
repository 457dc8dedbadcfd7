use Rattle.std.proofs.Common.{sym, ap, ◌∙◌}
use Rattle.script_format.proofs.NameLemmas.{known-is, has_text, texts, added, first-false}
use Rattle.script_format.proofs.names.FlowNames.add_emission.Goals as goal

pub returns-clause-added : goal.returns-clause-added
returns-clause-added c =
    let name = c.args.name in
    let names = c.args.self.now in
    let absent = first-false (has_text name.now names.emissions.keys) (has_text name.now names.subscribers.keys)
    (sym (known-is name.now names.emissions.keys names.subscribers.keys) ∙ c.requires) in
    sym (ap (λ l. record { emissions = l; subscribers = texts names.subscribers.keys }) (added name names.emissions.keys _ c.in_ok-insert.ensures.keys absent))
