use Rattle.script_chain_format.proofs.ChainLemmas.{bounds-none}
use Rattle.script_chain_format.proofs.read_source.bounds_of.Goals as goal

pub returns-then-values-ne2 : goal.returns-then-values-ne2
returns-then-values-ne2 c = bounds-none c.args.values.now c.if-values-ne2.true
