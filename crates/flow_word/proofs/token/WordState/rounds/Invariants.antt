use Rattle.std.proofs.Common.{◌≡◌}
use Rattle.flow_law.specs.history.Updates.{LosesRounds}
use Rattle.flow_word.proofs.token.WordState.rounds.Given as goal

abbrev pub invariant-loop : goal.invariant-loop
invariant-loop g l = (goal.iterator-loop g).can_next l.iterator' × (goal.iterator-loop g).is_finite l.iterator'
    × (l.seat.table_id ≡ l.fn.seat.table_id) × LosesRounds l.self.first (goal.F-post g l.f) l.fn.seat l.seat
