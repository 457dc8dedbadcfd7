use Rattle.std.proofs.Common.{◌≡◌, Ok, Err, string_bytes, sym, subst}
use Rattle.script_chain_format.specs.Results.{Gives}
use Rattle.flow_script.specs.ScriptMeaning.{script_meaning}
use Rattle.flow_script.proofs.MeaningLemmas.{plays_refused, plays_written}
use Rattle.flow_script.proofs.playing.play.Goals as goal

pub returns-in-Err-lines_of-clause-plays : goal.returns-in-Err-lines_of-clause-plays
returns-in-Err-lines_of-clause-plays g c =
    plays_refused _ _ _ c.in-Ok.bytes.items c.in-Err-lines_of.fault c.in-Ok.ensures.bytes c.in-Ok.ensures.end
    (subst (λ bytes. Gives (script_meaning bytes) (Err c.in-Err-lines_of.fault)) c.as_slice.ensures.value c.in-Err-lines_of.ensures)

pub returns-clause-plays : goal.returns-clause-plays
returns-clause-plays g c =
    let read = subst (λ bytes. script_meaning bytes ≡ Ok (string_bytes c.in-Ok-lines_of.text)) c.as_slice.ensures.value c.in-Ok-lines_of.ensures in
    let is = subst (λ text. script_meaning c.in-Ok.bytes.items ≡ Ok text) (sym c.as_bytes.ensures.value) read in
    plays_written _ _ _ _ c.in-Ok.bytes.items c.as_bytes.result.now c.write_all.result c.in-Ok.ensures.bytes c.in-Ok.ensures.end is c.write_all.ensures.ok c.write_all.ensures.err
    c.write_all.ensures.fault
