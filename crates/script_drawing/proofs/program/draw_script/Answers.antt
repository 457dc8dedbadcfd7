use Rattle.flow_script.specs.Watching.{inner_of}
use Rattle.script_drawing.proofs.DrawingLemmas.{runs-refused}
use Rattle.script_drawing.proofs.program.draw_script.Goals as goal

pub returns-in-Err : goal.returns-in-Err
returns-in-Err g c =
    runs-refused c.in-Err.fault c.tell_fault.ensures.0 _ _ (g.W.Write.contents (inner_of c.draw.new.output)) _ _ _ _ c.in-Err.ensures.draws c.in-Err.ensures.read_failed
    c.tell_fault.ensures.1 c.tell_fault.ensures.2
