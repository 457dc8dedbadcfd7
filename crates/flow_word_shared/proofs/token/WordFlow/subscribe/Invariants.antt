use Rattle.flow_word_shared.specs.Answers.{HasTried}
use Rattle.flow_word_shared.proofs.token.WordFlow.subscribe.Given as goal

abbrev pub invariant-loop : goal.invariant-loop
invariant-loop g l = (goal.iterator-loop g).can_next l.iterator' × (goal.iterator-loop g).is_finite l.iterator' × HasTried l.fn.seat l.seat
