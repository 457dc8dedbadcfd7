use Rattle.record_judging.proofs.Telling.{status_read}
use Rattle.record_judging.proofs.verdict.draw_bytes.Goals as goal

pub returns-in_ok-told-in-Ok : goal.returns-in_ok-told-in-Ok
returns-in_ok-told-in-Ok c =
    status_read c.in-Ok.sheet c.in-Ok.verdict c.in_ok-told-in-Ok.told.status c.in-Ok.ensures c.in_ok-told-in-Ok.ensures
