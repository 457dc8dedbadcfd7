use Rattle.std.proofs.Common.{◌≡◌, ◌+◌, ◌++◌, map}
use Rattle.std.specs.Prelude.{take}
use Rattle.std.specs.Vec.{vec_len, vec_capacity}
use Rattle.flow_word_shared.specs.Steps.{values_of}
use Rattle.flow_word_shared.proofs.drain.unpack_all.Given as goal

abbrev pub invariant-loop-i : goal.invariant-loop-i
invariant-loop-i g l = record {
  items : l.values.items ≡ l.fn.values.items ++ take l.i (map g.T.Words.value_in (values_of g.T.Words.WIDTH l.fn.count l.words));
  room : (vec_len l.values ≡ vec_len l.fn.values + l.i) × (vec_capacity l.values ≡ vec_capacity l.fn.values);
}
