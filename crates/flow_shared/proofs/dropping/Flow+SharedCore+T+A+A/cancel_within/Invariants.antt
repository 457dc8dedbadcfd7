use Rattle.std.proofs.Common.{◌≡◌, ◌+◌}
use Rattle.flow_shared.proofs.Tries.{CancelsOn}
use Rattle.flow_shared.proofs.dropping.Flow+SharedCore+T+A+A.cancel_within.Given as goal

abbrev pub invariant-loop : goal.invariant-loop
invariant-loop g l = record {
  flow : l.emission.token.table_id ≡ l.fn.self.table_id;
  lost : l.emission.token.knows.lost ≡ l.fn.emission.token.knows.lost + l.counter;
  cancels : CancelsOn l.fn.self l.fn.emission l.emission;
}
