use Rattle.std.proofs.Common.{◌≡◌, ◌+◌, ◌++◌}
use Rattle.std.specs.Prelude.{take}
use Rattle.std.specs.Vec.{vec_len, vec_capacity}
use Rattle.flow_word_shared.proofs.closing.ClosedWordFlow.copy_cache.Given as goal

abbrev pub invariant-loop-i : goal.invariant-loop-i
invariant-loop-i g l = record {
  copied : l.values.items ≡ l.fn.values.items ++ take l.i l.fn.self.replay_cache;
  room : (vec_len l.values ≡ vec_len l.fn.values + l.i) × (vec_capacity l.values ≡ vec_capacity l.fn.values);
}
