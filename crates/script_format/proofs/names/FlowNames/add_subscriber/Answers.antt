use Rattle.std.proofs.Common.{sym, ap, ◌∙◌}
use Rattle.script_format.proofs.NameLemmas.{known-is, has_text, texts, added, second-false}
use Rattle.script_format.proofs.names.FlowNames.add_subscriber.Goals as goal

pub returns-clause-added : goal.returns-clause-added
returns-clause-added c =
    let name = c.args.name in
    let names = c.args.self.now in
    let absent = second-false (has_text name.now names.emissions.keys) (has_text name.now names.subscribers.keys)
    (sym (known-is name.now names.emissions.keys names.subscribers.keys) ∙ c.requires) in
    sym (ap (λ l. record { emissions = texts names.emissions.keys; subscribers = l }) (added name names.subscribers.keys _ c.in_ok-insert.ensures.keys absent))
