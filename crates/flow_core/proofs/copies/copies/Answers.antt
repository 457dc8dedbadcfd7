use Rattle.std.proofs.Common.{◌∙◌, ◌++◌, ◌∷◌, [], ◌≤◌, Some, sym, ap, subst, arith}
use Rattle.circular_buffer.proofs.Places.{slice_get-some}
use Rattle.flow_core.proofs.RingLemmas.{all_copied, copied_more, more_to_copy, of_an_error}
use Rattle.flow_core.proofs.copies.copies.Goals as goal

pub unreachable-requires : goal.unreachable-requires
unreachable-requires g c =
    let there = slice_get-some c.args.values.now.items c.loop-place.place (omega (arith, c.len-place-end.ensures.len)) in
    cc (c.in_default.ensures, there.1)

pub loop-place-preserved : goal.loop-place-preserved
loop-place-preserved g c =
    rw c.if-is_err.ensures.negation at c.push.ensures.items
    ∙ ap (λ l. l ++ c.in_ok-copy.copy ∷ []) c.loop-place.invariant
    ∙ copied_more c.args.from c.loop-place.place c.args.values.now.items c.in_ok-copy.copy (omega (arith, c.loop-place.auto.place))
    (sym c.in-Some.ensures ∙ ap Some (sym c.in_ok-copy.ensures.copy))

pub returns-clause-copies : goal.returns-clause-copies
returns-clause-copies g c =
    c.loop-place.invariant ∙ all_copied c.args.from c.loop-place.place c.args.values.now.items
    (subst (λ n. n ≤ c.loop-place.place) c.len-place-end.ensures.len c.loop-place-test.false)

pub returns-then-is_err-clause-any : goal.returns-then-is_err-clause-any
returns-then-is_err-clause-any g c =
    more_to_copy c.args.from c.loop-place.place c.args.values.now.items c.in_ok-copy.copy (omega (arith, c.loop-place.auto.place))
    (sym c.in-Some.ensures ∙ ap Some (sym c.in_ok-copy.ensures.copy))

pub returns-in_err-copy-clause-any : goal.returns-in_err-copy-clause-any
returns-in_err-copy-clause-any g c =
    of_an_error c.from_residual.result
    (more_to_copy c.args.from c.loop-place.place c.args.values.now.items c.in-Some.value.now (omega (arith, c.loop-place.auto.place)) (sym c.in-Some.ensures))

pub unreachable-unreachable : goal.unreachable-unreachable
unreachable-unreachable g c = absurd c.unreachable.result
