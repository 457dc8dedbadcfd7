use Rattle.std.proofs.Common.{rules}
use Rattle.flow_program.proofs.ArgumentsLemmas.{read_short}
use Rattle.flow_program.proofs.command.read_short.Goals as goal

pub returns : goal.returns
returns c = search (rules, read_short c.args.text.now _ c.parse.ensures.value.0 c.requires.digits c.requires.some c.requires.short)
