use Rattle.std.proofs.Common.{◌≡◌, ◌+◌, ◌-◌, ◌++◌, drop}
use Rattle.std.specs.Prelude.{take}
use Rattle.std.specs.Vec.{vec_len, vec_capacity}
use Rattle.flow_word_shared.specs.Steps.{log_after}
use Rattle.flow_word_shared.specs.Tokens.{ring_token}
use Rattle.flow_word_shared.proofs.token.WordFlow.copy_held.Given as goal

abbrev pub invariant-loop-k : goal.invariant-loop-k
invariant-loop-k g l = record {
  same : (l.seat.me ≡ l.fn.seat.me) × (l.seat.table_id ≡ l.fn.seat.table_id);
  copied : l.values.items ≡ l.fn.values.items ++ take (l.k - l.start) (drop l.start (log_after l.self.table_id.start (ring_token l.fn.seat).knows.seen));
  room : (vec_len l.values ≡ vec_len l.fn.values + (l.k - l.start)) × (vec_capacity l.values ≡ vec_capacity l.fn.values);
}
