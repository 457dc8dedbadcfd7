use Rattle.script_over.proofs.OverLemmas.{refuses_meant}
use Rattle.script_over.proofs.reading.lines_in.Goals as goal

pub returns-in-Ok-clause-played : goal.returns-in-Ok-clause-played
returns-in-Ok-clause-played c = (_, c.in-Ok.ensures)

pub returns-in-Err-clause-refused : goal.returns-in-Err-clause-refused
returns-in-Err-clause-refused c = refuses_meant c.args.bytes.now _ c.in-Err.ensures
