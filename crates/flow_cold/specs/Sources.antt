-- The runs of the sources.
use Rattle.std.specs.Prelude.{◌≡◌, ◌≤◌, ℤ, drop, length}
use Rattle.flow_law.specs.chain.ChainRun.{ChainRun, list_run}
use Rattle.flow_cold.specs.declared.script_chain.op.Source.{Source}
use Rattle.flow_cold.specs.declared.script_chain.op.Source.TheVariants.{List, Range, Scripted}
use Rattle.flow_operators.specs.Sources.{range_left, range_rest, range_run, scripted_run}

-- the whole run of a source
abbrev pub source_whole : Source → ChainRun ℤ
source_whole (List s) = list_run s.items.items
source_whole (Range s) = range_run s.first s.last
source_whole (Scripted s) = scripted_run s.entries.items

-- the rest of a source's run
abbrev pub source_rest : Source → ChainRun ℤ
source_rest (List s) = list_run (drop s.at s.items.items)
source_rest (Range s) = range_rest s
source_rest (Scripted s) = scripted_run (drop s.at s.entries.items)

-- the source is over: it has no item or entry left, so each ask answers the end and changes nothing
abbrev pub IsSourceOver : Source → Type 0
IsSourceOver (List s) = length s.items.items ≤ s.at
IsSourceOver (Range s) = range_left s ≡ 0
IsSourceOver (Scripted s) = length s.entries.items ≤ s.at
