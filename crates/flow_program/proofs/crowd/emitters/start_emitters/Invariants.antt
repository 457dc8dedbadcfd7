use Rattle.std.proofs.Common.{◌≡◌, ℕ, ◌+◌, ◌*◌, ◌<◌, ◌≤◌, get_or, vec_items, vec_len, vec_capacity}
use Rattle.std.specs.Vec.Iter.{into_iter_items, into_iter_len}
use Rattle.flow_program.specs.Crowds.{WillEmit}
use Rattle.flow_program.proofs.crowd.emitters.start_emitters.Given as goal

abbrev pub invariant-loop-emitter : goal.invariant-loop-emitter
invariant-loop-emitter g l =
    let done = vec_len l.threads in let rest = l.emitter-iterator in let all = l.fn.emitters in
    (done + into_iter_len rest ≡ vec_len all)
    × (l.first ≡ done * l.values)
    × ((k : ℕ) (d : _) → k < into_iter_len rest → get_or (into_iter_items rest) k d ≡ get_or (vec_items all) (done + k) d)
    × ((k : ℕ) (d e : _) → k < done → WillEmit (get_or (vec_items all) k e) (k * l.values) l.values (get_or (vec_items l.threads) k d).promise)
    × (vec_len all ≤ vec_capacity l.threads)
