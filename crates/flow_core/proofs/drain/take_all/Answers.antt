use Rattle.std.proofs.Common.{◌≡◌, ◌+◌, ◌≤◌, ◌∷◌, [], ◌++◌, ◌∙◌, refl, sym, ap, subst, arith}
use Rattle.std.specs.Prelude.{Ok, Err}
use Rattle.std.specs.Vec.{vec_len, vec_capacity}
use Rattle.std.proofs.lemmas.Result.{err_from_is_err_and}
use Rattle.flow_law.specs.flow.Draining.{DrainsBy, EndsBy}
use Rattle.flow_law.proofs.DrainingLemmas.{HasTaken, taken_none, taken_more, takes_most}
use Rattle.flow_core.specs.SubId.{number_of}
use Rattle.flow_core.proofs.DrainSteps.{by_empty, by_gone, by_fault, for_memory, where_ok}
use Rattle.flow_core.proofs.drain.take_all.Goals as goal

pub loop-init : goal.loop-init
loop-init g c = taken_none (g.S.TakesNext.nexts (number_of c.args.id)) c.args.core.now c.args.values.now.items

pub loop-preserved : goal.loop-preserved
loop-preserved g c =
    let nexts = g.S.TakesNext.nexts (number_of c.args.id) in
    let before = c.loop.core in
    let after = c.take_next.new.self in
    let more = subst (λ r. nexts before r after) (c.in_ok-value.was ∙ ap Ok c.in-Value.is) c.take_next.ensures.nexts in
    let longer = c.push_reserved.ensures.items ∙ ap (λ l. l ++ c.in-Value.value ∷ []) c.reserve.ensures.items in
    taken_more nexts c.loop.counter c.args.core.now before after c.args.values.now.items c.loop.values.items c.push_reserved.new.self.items c.in-Value.value c.loop.invariant more longer

pub push_reserved-requires : goal.push_reserved-requires
push_reserved-requires g c =
    let room = where_ok (vec_len c.reserve.new.self + 1 ≤ vec_capacity c.reserve.new.self) c.reserve.result c.if-is_err.ensures.negation c.reserve.ensures.ok in
    omega (arith, room)

pub returns-clause-drains : goal.returns-clause-drains
returns-clause-drains g c =
    let nexts = g.S.TakesNext.nexts (number_of c.args.id) in
    let all : c.loop.counter ≡ c.args.most = omega (arith, c.loop-test.false, c.loop.auto.counter-end) in
    takes_most nexts (EndsBy nexts) c.args.most c.args.core.now c.loop.core c.args.values.now.items c.loop.values.items
    (subst (λ n. HasTaken nexts n c.args.core.now c.args.values.now.items c.loop.values.items c.loop.core) all c.loop.invariant) refl

pub returns-in-Empty-clause-drains : goal.returns-in-Empty-clause-drains
returns-in-Empty-clause-drains g c =
    by_empty (g.S.TakesNext.nexts (number_of c.args.id)) c.loop.counter c.args.most c.args.core.now c.loop.core c.args.values.now.items c.loop.values.items c.reserve.new.self.items
    c.loop.invariant c.loop-test.true c.reserve.ensures.items c.take_next.new.self c.take_next.result (c.in_ok-value.was ∙ ap Ok c.in-Empty.is) c.take_next.ensures.nexts

pub returns-in-Gone-clause-drains : goal.returns-in-Gone-clause-drains
returns-in-Gone-clause-drains g c =
    by_gone (g.S.TakesNext.nexts (number_of c.args.id)) c.loop.counter c.args.most c.args.core.now c.loop.core c.args.values.now.items c.loop.values.items c.reserve.new.self.items
    c.loop.invariant c.loop-test.true c.reserve.ensures.items c.take_next.new.self c.take_next.result (c.in_ok-value.was ∙ ap Ok c.in-Gone.is) c.take_next.ensures.nexts

pub returns-in_err-value-clause-drains : goal.returns-in_err-value-clause-drains
returns-in_err-value-clause-drains g c =
    let nexts = g.S.TakesNext.nexts (number_of c.args.id) in
    let given = err_from_is_err_and c.from_residual.result c.from_residual.ensures.1 in
    subst (λ r. DrainsBy nexts c.args.most c.args.core.now c.args.values.now.items r c.reserve.new.self.items c.take_next.new.self) (sym given.1)
    (by_fault nexts c.loop.counter c.args.most c.args.core.now c.loop.core c.args.values.now.items c.loop.values.items c.reserve.new.self.items
    c.loop.invariant c.loop-test.true c.reserve.ensures.items c.take_next.new.self c.take_next.result given.0 (c.in_err-value.was ∙ ap Err (sym given.2)) c.take_next.ensures.nexts)

pub returns-then-is_err-clause-drains : goal.returns-then-is_err-clause-drains
returns-then-is_err-clause-drains g c =
    for_memory (g.S.TakesNext.nexts (number_of c.args.id)) c.loop.counter c.args.most c.args.core.now c.loop.core c.args.values.now.items c.loop.values.items c.reserve.new.self.items
    c.loop.invariant c.loop-test.true c.reserve.ensures.items
