use Rattle.std.proofs.Common.{◌≡◌}
use Rattle.flow_word_shared.proofs.token.WordFlow.take_place.Given as goal

abbrev pub invariant-loop-place : goal.invariant-loop-place
invariant-loop-place g l = record {
  table : l.seat.table_id ≡ l.fn.seat.table_id;
  same : l.seat.me ≡ l.fn.seat.me;
}
