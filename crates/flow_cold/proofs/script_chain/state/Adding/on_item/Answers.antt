use Rattle.std.proofs.Common.{sym, ◌∙◌, to_z-of_z}
use Rattle.flow_cold.proofs.SumLemmas.{with_sums-begins}
use Rattle.flow_cold.proofs.script_chain.state.Adding.on_item.Goals as goal

pub returns-clause-gives : goal.returns-clause-gives
returns-clause-gives c = λ r.
    let fits = simp (to_z-of_z, c.ranges.item) at (rw c.deref.ensures.value at (sym c.all_sums_fit.ensures ∙ c.if-not-all_sums_fit.false)) in
    simp (to_z-of_z, c.ranges.item) (with_sums-begins c.args.item c.args.self.now.entries.items r fits)
