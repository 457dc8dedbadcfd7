use Rattle.std.proofs.Common.{◌≡◌, ◌*◌, length}
use Rattle.flow_word_shared.specs.Rule.{capacity_of}
use Rattle.flow_word_shared.specs.Steps.{AreFound, log_after, values_of}
use Rattle.flow_word_shared.specs.Tokens.{ring_token, IsReading}
use Rattle.flow_word_shared.proofs.Told.{Saw}
use Rattle.flow_word_shared.proofs.token.WordFlow.read_cells.Given as goal

abbrev pub invariant-loop-i : goal.invariant-loop-i
invariant-loop-i g l = record {
  count : length l.words.items ≡ l.i * g.T.Words.WIDTH;
  reading : IsReading l.seat l.fn.number l.fn.position (values_of g.T.Words.WIDTH l.i l.words.items) l.fn.seen;
  found : AreFound g.T.Words.are_words g.T.Words.value_in (capacity_of l.fn.self.table_id.start) (log_after l.fn.self.table_id.start (ring_token l.seat).knows.seen) l.fn.position (values_of g.T.Words.WIDTH l.i l.words.items);
  sees : Saw 0 (ring_token l.fn.seat) (ring_token l.seat);
}
