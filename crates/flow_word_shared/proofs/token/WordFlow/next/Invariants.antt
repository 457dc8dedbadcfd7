use Rattle.std.proofs.Common.{◌≡◌}
use Rattle.flow_word_shared.specs.Answers.{HasTried}
use Rattle.flow_word_shared.proofs.token.WordFlow.next.Given as goal

abbrev pub invariant-loop : goal.invariant-loop
invariant-loop g l = (goal.iterator-loop g).can_next l.iterator' × (goal.iterator-loop g).is_finite l.iterator'
    × (l.subscription.number ≡ l.fn.subscription.number) × HasTried l.fn.subscription.token l.subscription.token
