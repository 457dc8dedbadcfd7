use Rattle.std.proofs.Common.{rules}
use Rattle.flow_word.proofs.UpdatingLemmas.{updated_more}
use Rattle.flow_program.proofs.count.count_up.Goals as goal

pub loop-done-preserved : goal.loop-done-preserved
loop-done-preserved g c = updated_more (λ x y p. search (rules, p)) c.loop-done.invariant c.update.ensures.flow c.update.ensures.updates
