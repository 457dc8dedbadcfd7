use Rattle.std.proofs.Common.{◌≡◌, ℕ, ◌+◌, ◌<◌, ◌≤◌, get_or, vec_items, vec_len, vec_capacity}
use Rattle.std.specs.Vec.Iter.{into_iter_items, into_iter_len}
use Rattle.flow_program.specs.Crowds.{WillRead}
use Rattle.flow_program.proofs.crowd.subscribers.start_subscribers.Given as goal

abbrev pub invariant-loop-reader : goal.invariant-loop-reader
invariant-loop-reader g l =
    let done = vec_len l.threads in let rest = l.left in let all = l.fn.readers in
    (done + into_iter_len rest ≡ vec_len all)
    × ((k : ℕ) (d : _) → k < into_iter_len rest → get_or (into_iter_items rest) k d ≡ get_or (vec_items all) (done + k) d)
    × ((k : ℕ) (d r : _) → k < done → WillRead (get_or (vec_items all) k r) l.count (get_or (vec_items l.threads) k d).promise)
    × (vec_len all ≤ vec_capacity l.threads)

abbrev pub decreases-loop-reader : goal.decreases-loop-reader
decreases-loop-reader g l = into_iter_len l.left
