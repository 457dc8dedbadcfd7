use Rattle.std.proofs.Common.{ap, ◌∙◌}
use Rattle.script_chain_format.specs.Results.{result_map}
use Rattle.script_chain_format.proofs.ResultLemmas.{gives_err}
use Rattle.flow_script.specs.Cases.{traced}
use Rattle.flow_script.specs.ScriptMeaning.{script_meaning, text_of}
use Rattle.flow_script.specs.Traces.{trace_seen}
use Rattle.flow_script.proofs.MeaningLemmas.{answered_traced}
use Rattle.script_drawing.proofs.drawing.drawing_of.Goals as goal

pub returns-in-Ok-drawn : goal.returns-in-Ok-drawn
returns-in-Ok-drawn c = (
  text_of (trace_seen c.in-Ok.traced.trace).answers,
  ap (result_map text_of) (answered_traced c.args.bytes.now ∙ ap (result_map (λ t. t.answers)) c.in-Ok.ensures),
  c.in-Ok-drawn.ensures,
)

pub returns-in-Err : goal.returns-in-Err
returns-in-Err c =
    gives_err (traced c.args.bytes.now) (script_meaning c.args.bytes.now) c.in-Err.fault c.in-Err.ensures
    (λ fault is. ap (result_map text_of) (answered_traced c.args.bytes.now ∙ ap (result_map (λ t. t.answers)) is))
