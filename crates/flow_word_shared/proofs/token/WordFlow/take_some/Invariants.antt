use Rattle.std.proofs.Common.{◌≡◌}
use Rattle.std.specs.Vec.{vec_len, vec_capacity}
use Rattle.flow_word_shared.specs.Answers.{HasTried}
use Rattle.flow_word_shared.proofs.token.WordFlow.take_some.Given as goal

abbrev pub invariant-loop : goal.invariant-loop
invariant-loop g l = (goal.iterator-loop g).can_next l.iterator' × (goal.iterator-loop g).is_finite l.iterator'
    × (l.subscription.number ≡ l.fn.subscription.number) × HasTried l.fn.subscription.token l.subscription.token
    × (l.values.items ≡ l.fn.values.items) × (vec_len l.values ≡ vec_len l.fn.values) × (vec_capacity l.values ≡ vec_capacity l.fn.values)
