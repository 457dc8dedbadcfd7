use Rattle.script_chain_format.specs.ChainFormat.{most_levels}
use Rattle.script_chain_format.proofs.read_chain.chain_in.Goals as goal

pub returns : goal.returns
unfolding most_levels
returns c = c.chain_at.ensures
