use Rattle.std.proofs.Common.{sym, ◌∙◌, arith}
use Rattle.std.proofs.lemmas.Grind.{common_steps}
use Rattle.flow_operators.proofs.SameChainLemmas.{stays-then}
use Rattle.flow_operators.proofs.operators.passing.next_where.Goals as goal

pub loop-item-preserved : goal.loop-item-preserved
loop-item-preserved g c = record {
  stays = stays-then c.loop-item.invariant.stays c.next.ensures.stays;
  ended = grind (arith, common_steps);
  over = grind (arith, common_steps);
  fewer = grind (arith, common_steps);
  rest = λ m p r d.
      let passes = c.passes.ensures.decides p d in
      let rest = c.loop-item.invariant.rest m p r d in
      let gives = c.in_ok-item.ensures.gives m (c.loop-item.invariant.stays.reads m r) in
      grind (arith, common_steps);
  behind = λ m p r d.
      let passes = c.passes.ensures.decides p d in
      let behind = c.loop-item.invariant.behind m p r d in
      let gives = c.in_ok-item.ensures.behind (λ e. grind (arith, common_steps)) m (c.loop-item.invariant.stays.reads m r) in
      grind (arith, common_steps);
}

pub returns-then-passes-wanted-clause-gives : goal.returns-then-passes-wanted-clause-gives
returns-then-passes-wanted-clause-gives g c = λ m p r d.
    let passes = c.passes.ensures.decides p d in
    let rest = c.loop-item.invariant.rest m p r d in
    let gives = c.in_ok-item.ensures.gives m (c.loop-item.invariant.stays.reads m r) in
    grind (arith, common_steps)

pub returns-then-passes-wanted-clause-behind : goal.returns-then-passes-wanted-clause-behind
returns-then-passes-wanted-clause-behind g c = λ running m p r d.
    let passes = c.passes.ensures.decides p d in
    let behind = c.loop-item.invariant.behind m p r d in
    let gives = c.in_ok-item.ensures.behind (λ e. running (sym c.loop-item.invariant.ended ∙ e)) m (c.loop-item.invariant.stays.reads m r) in
    grind (arith, common_steps)
