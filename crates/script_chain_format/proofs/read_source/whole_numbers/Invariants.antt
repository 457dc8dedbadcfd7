use Rattle.std.proofs.Common.{◌≡◌, ◌++◌, drop}
use Rattle.std.specs.Prelude.{option_map}
use Rattle.serde_json.specs.View.{items_view}
use Rattle.script_chain_format.specs.SourceFormat.{whole_numbers}
use Rattle.script_chain_format.proofs.read_source.whole_numbers.Given as goal

abbrev pub invariant-loop-value : goal.invariant-loop-value
invariant-loop-value l = option_map (λ rest. l.numbers.items ++ rest) (whole_numbers (items_view (drop l.value-index l.values))) ≡ whole_numbers (items_view l.values)
