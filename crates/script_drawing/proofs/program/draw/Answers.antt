use Rattle.std.proofs.Common.{ℕ, List, Ok, Err, sym, subst}
use Rattle.script_chain_format.specs.Results.{Gives}
use Rattle.flow_script.specs.ScriptMeaning.{script_meaning}
use Rattle.script_drawing.specs.Drawing.{Pictures, TellsLines}
use Rattle.script_drawing.proofs.DrawingLemmas.{draws_refused, draws_written}
use Rattle.script_drawing.proofs.program.draw.Goals as goal

pub returns-in-Err-drawn_or_explained-clause-draws : goal.returns-in-Err-drawn_or_explained-clause-draws
returns-in-Err-drawn_or_explained-clause-draws g c =
    draws_refused _ _ _ c.in-Ok.bytes.items c.in-Err-drawn_or_explained.fault c.in-Ok.ensures.bytes c.in-Ok.ensures.end
    (subst (λ bytes. Gives {A = List ℕ} (script_meaning bytes) (Err c.in-Err-drawn_or_explained.fault)) c.as_slice.ensures.value c.in-Err-drawn_or_explained.ensures)

pub returns-clause-draws : goal.returns-clause-draws
returns-clause-draws g c =
    let pictured = subst (λ bytes. Pictures (script_meaning bytes) (Ok c.in-Ok-drawn_or_explained.drawn)) c.as_slice.ensures.value c.in-Ok-drawn_or_explained.ensures in
    draws_written _ _ _ _ c.in-Ok.bytes.items pictured.0 c.as_bytes.result.now c.write_all.result c.in-Ok.ensures.bytes c.in-Ok.ensures.end pictured.1
    (subst (TellsLines pictured.0) (sym c.as_bytes.ensures.value) pictured.2) c.write_all.ensures.ok c.write_all.ensures.err c.write_all.ensures.fault
