use Rattle.std.proofs.Common.{refl, sym, ◌∙◌, subst, Option, true, false}
use Rattle.std.specs.Fn.{FnReturnsAt}
use Rattle.flow_law.specs.flow.StateFlow.{state_flow}
use Rattle.flow_word.specs.Receiving.{WordReceives, FindsNone}
use Rattle.flow_word.specs.WaitingFor.{looked, passed_over, ReceivesIfInTime}
use Rattle.flow_word.proofs.handles.reader.WordReader.wait_for_timeout.Goals as goal

pub loop-init : goal.loop-init
loop-init g c = (tt, tt, c.current-newest.ensures.flow, looked c.current-newest.ensures.looked)

pub loop-preserved : goal.loop-preserved
loop-preserved g c =
    let now = c.loop.self.subscription in let new = c.changed_within.new.self.subscription in
    let given = subst (λ f. WordReceives state_flow f.first now c.in_ok-newest.newest new) c.loop.invariant.2 c.in_ok-newest.ensures.received in
    (tt, tt, c.in_ok-newest.ensures.flow ∙ c.loop.invariant.2, passed_over c.loop.invariant.3 (record { shown = _; shows = refl; says = record { met = c.if-test.ensures } }) given)

pub returns-then-test-clause-received : goal.returns-then-test-clause-received
returns-then-test-clause-received g c = (c.loop.invariant.3, record { shown = _; shows = refl; says = record { met = c.if-test.ensures } })

pub returns-in_err-newest-clause-received : goal.returns-in_err-newest-clause-received
returns-in_err-newest-clause-received g c =
    let now = c.loop.self.subscription in let new = c.changed_within.new.self.subscription in
    let none = subst (λ f. FindsNone state_flow f.first now new) c.loop.invariant.2 c.in_err-newest.ensures.received in
    subst (λ (r : Option g.row.T.Denot).
    ReceivesIfInTime c.args.self.now.flow.first (λ value. FnReturnsAt g.F.Fn c.args.test value true) (λ value. FnReturnsAt g.F.Fn c.args.test value false) c.args.self.now.subscription r new)
    (sym c.from_residual.ensures)
    (record { value = c.loop.newest; between = now; came = c.loop.invariant.3; fails = record { shown = _; shows = refl; says = record { met = c.if-test.ensures } }; empty = none })
