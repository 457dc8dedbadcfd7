use Rattle.std.proofs.Common.{◌≡◌, ◌++◌, drop}
use Rattle.std.specs.Prelude.{option_map}
use Rattle.serde_json.specs.View.{items_view}
use Rattle.script_chain_format.specs.SourceFormat.{entries_of}
use Rattle.script_chain_format.proofs.read_source.entries_of.Given as goal

abbrev pub invariant-loop-value : goal.invariant-loop-value
invariant-loop-value l = option_map (λ rest. l.entries.items ++ rest) (entries_of (items_view (drop l.value-index l.values))) ≡ entries_of (items_view l.values)
