use Rattle.std.proofs.Common.{inr, refl}
use Rattle.flow_shared.proofs.handles.setter.FlowCaller+StateCore+T+A+A.answered.Goals as goal

pub returns-in-Ok-f-clause-read : goal.returns-in-Ok-f-clause-read
returns-in-Ok-f-clause-read g c = (c.in-Ok.ensures.called, record { shown = _; shows = refl; says = record { met = c.in-Ok-f.ensures } })

pub returns-in-Err-clause-stopped : goal.returns-in-Err-clause-stopped
returns-in-Err-clause-stopped g c = inr (c.in-Ok.old, c.in-Ok.ensures.called, (c.in-Err.refused, record { shown = _; shows = refl; says = record { met = c.in-Err.ensures } }))
