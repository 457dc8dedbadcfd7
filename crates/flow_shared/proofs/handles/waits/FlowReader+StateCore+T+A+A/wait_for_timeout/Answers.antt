use Rattle.std.proofs.Common.{refl, Ok, Err, ◌∙◌, subst}
use Rattle.flow_law.specs.history.HandleFaults.{memory_fault}
use Rattle.flow_law.specs.history.Handles.{next_of}
use Rattle.flow_law.specs.flow.StateFlow.{state_flow}
use Rattle.flow_shared.specs.Receiving.{NextsUntil}
use Rattle.flow_shared.specs.WaitingFor.{looked, passed_over, passed, look_refused, next_refused, none_passed}
use Rattle.flow_shared.proofs.handles.waits.FlowReader+StateCore+T+A+A.wait_for_timeout.Goals as goal

pub returns-in-Err-clause-received : goal.returns-in-Err-clause-received
returns-in-Err-clause-received g c = look_refused c.in-Err.ensures.looked

pub loop-init : goal.loop-init
loop-init g c = (tt, tt, c.in-Ok.ensures.flow, looked c.in-Ok.ensures.looked)

pub loop-preserved : goal.loop-preserved
loop-preserved g c =
    let flow = c.args.self.now.flow in
    let now = c.loop.self.subscription in let new = c.await_next_within.new.self.subscription in
    let found = subst (λ f. NextsUntil state_flow f now (Ok (next_of c.in-Ok-Some.field-0)) new) c.loop.invariant.2 c.in-Ok-Some.ensures.received in
    let given = subst (λ o. NextsUntil state_flow flow now (Ok (next_of o)) new) c.in-Ok-Some.field-0-is found in
    (tt, tt, c.in-Ok-Some.ensures.flow ∙ c.loop.invariant.2, passed_over c.loop.invariant.3 (record { shown = _; shows = refl; says = record { met = c.if-test.ensures } }) given)

pub returns-then-test-clause-received : goal.returns-then-test-clause-received
returns-then-test-clause-received g c = passed c.loop.invariant.3 (record { shown = _; shows = refl; says = record { met = c.if-test.ensures } })

pub returns-in-Ok-None-clause-received : goal.returns-in-Ok-None-clause-received
returns-in-Ok-None-clause-received g c =
    let flow = c.args.self.now.flow in
    let now = c.loop.self.subscription in let new = c.await_next_within.new.self.subscription in
    let found = subst (λ f. NextsUntil state_flow f now (Ok (next_of c.in-Ok-None.field-0)) new) c.loop.invariant.2 c.in-Ok-None.ensures.received in
    let none = subst (λ o. NextsUntil state_flow flow now (Ok (next_of o)) new) c.in-Ok-None.field-0-is found in
    none_passed c.loop.invariant.3 (record { shown = _; shows = refl; says = record { met = c.if-test.ensures } }) none

pub returns-in-Err-await_next_within-clause-received : goal.returns-in-Err-await_next_within-clause-received
returns-in-Err-await_next_within-clause-received g c =
    let now = c.loop.self.subscription in let new = c.await_next_within.new.self.subscription in
    let refused = subst (λ f. NextsUntil state_flow f now (Err (memory_fault c.in-Err-await_next_within.refused)) new) c.loop.invariant.2 c.in-Err-await_next_within.ensures.received in
    next_refused c.loop.invariant.3 (record { shown = _; shows = refl; says = record { met = c.if-test.ensures } }) refused
