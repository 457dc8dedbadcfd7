use Rattle.std.proofs.Common.{◌≡◌, drop}
use Rattle.std.specs.Prelude.{is_some}
use Rattle.serde_json.specs.View.{items_view}
use Rattle.script_chain_format.specs.SourceFormat.{entries_of}
use Rattle.script_chain_format.proofs.read_source.are_entries.Given as goal

abbrev pub invariant-loop-value : goal.invariant-loop-value
invariant-loop-value l = is_some (entries_of (items_view (drop l.value-index l.values))) ≡ is_some (entries_of (items_view l.values))
