-- A bound on the asks of inner chains that are opened one after the other, each asked at most `limit` times.
use Rattle.std.proofs.Common.{◌<◌, ◌≤◌, ◌+◌, ◌*◌, ℕ, arith}
use Rattle.std.proofs.lemmas.Nat.{mul-add-lt}

-- one item fewer upstream makes room for a whole inner chain
pub opened-fewer : (after before limit inner : ℕ) → after < before → inner ≤ limit → after * (limit + 1) + inner < before * (limit + 1)
opened-fewer after before limit inner fewer within = omega (arith, mul-add-lt after (limit + 1) inner before fewer (omega arith))
