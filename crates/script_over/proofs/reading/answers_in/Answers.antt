use Rattle.script_over.proofs.OverLemmas.{playable_answered, refuses_answered}
use Rattle.script_over.proofs.reading.answers_in.Goals as goal

pub returns-in-Ok-clause-played : goal.returns-in-Ok-clause-played
returns-in-Ok-clause-played c = playable_answered c.args.bytes.now _ c.in-Ok.ensures

pub returns-in-Err-clause-refused : goal.returns-in-Err-clause-refused
returns-in-Err-clause-refused c = refuses_answered c.args.bytes.now _ c.in-Err.ensures
