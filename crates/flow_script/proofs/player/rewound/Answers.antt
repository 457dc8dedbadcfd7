use Rattle.std.proofs.Common.{ap}
use Rattle.script_chain_format.specs.Chains.{build_of, built_of}
use Rattle.flow_script.proofs.player.rewound.Goals as goal

pub returns-in-Ok : goal.returns-in-Ok
returns-in-Ok c = (built_of c.in-Ok.chain, ap build_of c.in-Ok.is, c.rewind.ensures.whole tt, c.rewind.ensures.rest tt)
