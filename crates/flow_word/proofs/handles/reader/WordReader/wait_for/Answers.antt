use Rattle.std.proofs.Common.{refl, ◌∙◌, subst}
use Rattle.flow_law.specs.flow.StateFlow.{state_flow}
use Rattle.flow_word.specs.Receiving.{WordReceives}
use Rattle.flow_word.specs.WaitingFor.{looked, passed_over}
use Rattle.flow_word.proofs.handles.reader.WordReader.wait_for.Goals as goal

pub loop-init : goal.loop-init
loop-init g c = (tt, tt, c.current-value.ensures.flow, looked c.current-value.ensures.looked)

pub loop-preserved : goal.loop-preserved
loop-preserved g c =
    let now = c.loop.self.subscription in let new = c.changed-value.new.self.subscription in
    let given = subst (λ f. WordReceives state_flow f.first now c.changed-value.result new) c.loop.invariant.2 c.changed-value.ensures.received in
    (tt, tt, c.changed-value.ensures.flow ∙ c.loop.invariant.2, passed_over c.loop.invariant.3 (record { shown = _; shows = refl; says = record { met = c.if-test.ensures } }) given)

pub returns-then-test-clause-received : goal.returns-then-test-clause-received
returns-then-test-clause-received g c = (c.loop.invariant.3, record { shown = _; shows = refl; says = record { met = c.if-test.ensures } })
