use Rattle.std.proofs.Common.{rules, arith, ◌*◌, ◌∙◌}
use Rattle.flow_word.proofs.UpdatingLemmas.{value_of_updates, counts_up}
use Rattle.flow_program.proofs.count.run_count.Goals as goal

pub returns-clause-counted : goal.returns-clause-counted
returns-clause-counted g c =
    let made = c.in_ok-callers.ensures in let lent = c.as_mut_slice-callers.ensures in let s = c.size in
    let value = value_of_updates _ c.in_ok-flow.ensures.made c.in_ok-maker.ensures made.flow made.maker made.made
    lent.value (lent.len ∙ made.count) c.for_each_mut.auto.s (λ i x y p. search (rules, p)) c.for_each_mut.ensures
    c.final_value.ensures.value ∙ counts_up (s.inside.threads * c.args.size.updates) (grind (arith, s.invariant, s.view_is)) in
    search (rules, value, s.view_is)
