use Rattle.std.proofs.Common.{◌≡◌, ℕ, ◌+◌, ◌<◌, ◌≤◌, get_or, vec_items, vec_len, vec_capacity}
use Rattle.std.specs.Vec.Iter.{into_iter_items, into_iter_len}
use Rattle.flow_program.specs.Crowds.{HasTakenAs}
use Rattle.flow_program.proofs.crowd.subscribers.join_subscribers.Given as goal

abbrev pub invariant-loop-thread : goal.invariant-loop-thread
invariant-loop-thread g l =
    let done = vec_len l.readers in let rest = l.thread-iterator in let all = l.fn.threads in
    (done + into_iter_len rest ≡ vec_len all)
    × (vec_len l.got ≡ done)
    × ((k : ℕ) (d : _) → k < into_iter_len rest → get_or (into_iter_items rest) k d ≡ get_or (vec_items all) (done + k) d)
    × ((k : ℕ) (d v t : _) → k < done → HasTakenAs (get_or (vec_items all) k t).promise (get_or (vec_items l.readers) k d) (get_or (vec_items l.got) k v).items)
    × (vec_len all ≤ vec_capacity l.readers)
    × (vec_len all ≤ vec_capacity l.got)
