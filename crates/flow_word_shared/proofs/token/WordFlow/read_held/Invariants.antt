use Rattle.std.proofs.Common.{◌≡◌, length}
use Rattle.flow_word_shared.specs.Rule.{HasValue}
use Rattle.flow_word_shared.specs.Steps.{IsBegun, log_after}
use Rattle.flow_word_shared.specs.Tokens.{ring_token}
use Rattle.flow_word_shared.proofs.token.WordFlow.read_held.Given as goal

abbrev pub invariant-loop-place : goal.invariant-loop-place
invariant-loop-place g l = record {
  same : (l.seat.me ≡ l.fn.seat.me) × (l.seat.table_id ≡ l.fn.seat.table_id);
  count : length l.words.items ≡ l.place;
  begun : IsBegun g.T.Words.are_words g.T.Words.value_in (log_after l.fn.self.table_id.start (ring_token l.fn.seat).knows.seen) l.fn.position l.words.items;
  whole : l.place ≡ g.T.Words.WIDTH → HasValue g.T.Words.are_words g.T.Words.value_in (log_after l.fn.self.table_id.start (ring_token l.fn.seat).knows.seen) l.fn.position l.words.items;
}
