-- The reader's names and steps, as the definitions have them. No public clause cites this module.
use Rattle.std.specs.Prelude.{List, map}
use Rattle.serde_json.specs.View.{items_view}
use Rattle.script_format.specs.declared.names.FlowNames.{FlowNames}
use Rattle.script_format.specs.declared.names.Names.{Names}
use Rattle.script_format.specs.declared.written.Written.{Written}
use Rattle.script_format.specs.declared.written.Written.TheVariants as kept
use Rattle.script_format.specs.Checks.{NameLists, plain, emit, poll, cancel, subscribe, subscribe_with, next, unsubscribe}
use Rattle.script_format.specs.Checks as checks

-- the names of a flow's emissions and subscribers
abbrev pub lists_of : FlowNames → NameLists
lists_of names = record { emissions = map (λ k. k.now) names.emissions.keys; subscribers = map (λ k. k.now) names.subscribers.keys }

-- the names of each flow
abbrev pub name_rows : Names → List NameLists
name_rows names = map lists_of names.flows.items

-- a step as it is written, in the definitions' terms
abbrev pub written_of : Written → checks.Written
written_of (kept.Plain step) = plain step
written_of (kept.Emit name value) = emit name.now value
written_of (kept.Poll name) = poll name.now
written_of (kept.Cancel name) = cancel name.now
written_of (kept.Subscribe name) = subscribe name.now
written_of (kept.SubscribeWith name values) = subscribe_with name.now (items_view values.now)
written_of (kept.Next name) = next name.now
written_of (kept.Unsubscribe name) = unsubscribe name.now
