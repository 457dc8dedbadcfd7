use Rattle.std.proofs.Common.{sym, subst, ◌∙◌}
use Rattle.script_chain_format.specs.Results.{Gives}
use Rattle.script_chain_format.specs.Chains.{entries_result}
use Rattle.script_chain_format.specs.SourceFormat.{entry_in, most_items}
use Rattle.script_chain_format.proofs.ChainLemmas.{few-enough, misshapen, too-many}
use Rattle.script_chain_format.proofs.read_source.entries_in.Goals as goal

pub returns-then-values-le-MOST_ITEMS : goal.returns-then-values-le-MOST_ITEMS
returns-then-values-le-MOST_ITEMS c =
    subst (λ m. Gives m (entries_result c.entries_of.result)) (sym (few-enough entry_in c.args.at most_items c.args.values.now c.if-values-le-MOST_ITEMS.true)) c.entries_of.ensures

pub returns-then-are_entries : goal.returns-then-are_entries
returns-then-are_entries c =
    too-many entry_in c.args.at most_items c.args.values.now c.if-values-le-MOST_ITEMS.false (sym c.are_entries.ensures ∙ c.if-are_entries.true)

pub returns-else-are_entries : goal.returns-else-are_entries
returns-else-are_entries c = misshapen c.args.at most_items _ (sym c.are_entries.ensures ∙ c.if-are_entries.false)
