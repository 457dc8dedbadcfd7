use Rattle.std.proofs.Common.{refl, Ok, Err, ◌∙◌, subst}
use Rattle.flow_law.specs.history.HandleFaults.{memory_fault}
use Rattle.flow_law.specs.flow.StateFlow.{state_flow}
use Rattle.flow_shared.specs.Receiving.{FlowReceives}
use Rattle.flow_shared.specs.WaitingFor.{looked, passed_over, passed, look_refused, next_refused}
use Rattle.flow_shared.proofs.handles.waits.FlowReader+StateCore+T+A+A.wait_for.Goals as goal

pub returns-in-Err-clause-received : goal.returns-in-Err-clause-received
returns-in-Err-clause-received g c = look_refused c.in-Err.ensures.looked

pub loop-init : goal.loop-init
loop-init g c = (tt, tt, c.in-Ok.ensures.flow, looked c.in-Ok.ensures.looked)

pub loop-preserved : goal.loop-preserved
loop-preserved g c =
    let now = c.loop.self.subscription in let new = c.changed.new.self.subscription in
    let given = subst (λ f. FlowReceives state_flow f now (Ok c.in-Ok-changed.newer) new) c.loop.invariant.2 c.in-Ok-changed.ensures.received in
    (tt, tt, c.in-Ok-changed.ensures.flow ∙ c.loop.invariant.2, passed_over c.loop.invariant.3 (record { shown = _; shows = refl; says = record { met = c.if-test.ensures } }) given)

pub returns-then-test-clause-received : goal.returns-then-test-clause-received
returns-then-test-clause-received g c = passed c.loop.invariant.3 (record { shown = _; shows = refl; says = record { met = c.if-test.ensures } })

pub returns-in-Err-changed-clause-received : goal.returns-in-Err-changed-clause-received
returns-in-Err-changed-clause-received g c =
    let now = c.loop.self.subscription in let new = c.changed.new.self.subscription in
    let refused = subst (λ f. FlowReceives state_flow f now (Err (memory_fault c.in-Err-changed.refused)) new) c.loop.invariant.2 c.in-Err-changed.ensures.received in
    next_refused c.loop.invariant.3 (record { shown = _; shows = refl; says = record { met = c.if-test.ensures } }) refused
