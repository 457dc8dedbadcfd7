use Rattle.std.proofs.Common.{◌<◌, sym, ◌∙◌, below_more, arith}
use Rattle.flow_check.proofs.QueueLemmas.{values_are, owns_same}
use Rattle.flow_check.proofs.shared_same.are_same_owns.Goals as goal

pub loop-index-preserved : goal.loop-index-preserved
loop-index-preserved c = below_more _ _ c.loop-index.invariant (
    sym c.own_at-left.ensures ∙ values_are _ _ (sym c.same_values.ensures ∙ c.if-not-same_values.false) ∙ c.own_at-right.ensures)

pub returns : goal.returns
returns c = λ yes.
    let same = c.if-count-others.false in
    let past = c.loop-index-test.false in
    owns_same c.args.one.now c.args.other.now (omega arith) (λ k l. let low : k < c.loop-index.index = omega arith in c.loop-index.invariant k low)
