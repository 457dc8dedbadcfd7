use Rattle.std.proofs.Common.{ap}
use Rattle.script_chain_format.specs.Results.{result_map}
use Rattle.script_chain_format.proofs.ResultLemmas.{gives_err}
use Rattle.flow_script.specs.ScriptMeaning.{answered, script_meaning, text_of}
use Rattle.flow_script.proofs.playing.lines_of.Goals as goal

pub returns-in-Err : goal.returns-in-Err
returns-in-Err c = gives_err (answered c.args.bytes.now) (script_meaning c.args.bytes.now) _ c.in-Err.ensures (λ fault is. ap (result_map text_of) is)
