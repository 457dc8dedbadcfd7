use Rattle.std.proofs.Common.{List, map, sym, subst, drop, get_or, false}
use Rattle.std.proofs.lemmas.List.{drop_all}
use Rattle.flow_check.specs.declared.node.Move.{Move}
use Rattle.flow_check.specs.Remaining.{next_call_of, GoesThrough}
use Rattle.flow_check.proofs.Parts.{caller_of, explain_more, map_here, step_of}
use Rattle.flow_check.proofs.replaying.goes_through.Goals as goal

pub loop-turn-preserved : goal.loop-turn-preserved
loop-turn-preserved g c = λ rest.
    let turn = get_or c.args.order.now c.loop-turn.turn-index (record { caller = 0; skips = false }) in
    c.loop-turn.invariant (explain_more g.M.Machine.stepped g.M.Machine.may_skip c.args.callers.now c.loop-turn.state c.in-Some-stepped.next c.loop-turn.placed.items
    c.place.new.placed.items (map caller_of (drop c.loop-turn.turn-index c.args.order.now)) _ turn.caller c.in-Some.call
    (map_here c.args.order.now c.loop-turn.turn-index (record { caller = 0; skips = false }) c.loop-turn-test.true)
    (sym {b = next_call_of c.args.callers.now c.loop-turn.placed.items turn.caller} c.in-Some.ensures) (c.may_come_next.ensures.yes c.if-not-may_come_next.false) (step_of g.M.Machine.stepped g.M.Machine.may_skip c.loop-turn.state c.in-Some-stepped.next turn.caller c.in-Some.call.call c.in_ok-stepped.stepped c.in-Some-stepped.is c.in_ok-stepped.ensures) (c.place.ensures c.if-not-place.false) rest)

pub returns : goal.returns
returns g c = λ yes. c.loop-turn.invariant (
    subst (λ (o : List Move). GoesThrough g.M.Machine.stepped g.M.Machine.may_skip c.args.callers.now c.loop-turn.state c.loop-turn.placed.items (map caller_of o))
    (sym (drop_all c.loop-turn.turn-index c.args.order.now c.loop-turn-test.false)) (c.owes_nothing.ensures.yes yes))
