-- The sizes that a count may have.
use Rattle.std.specs.Prelude.{ℕ, leb, ◌&&◌, cond, Option, Some, None}

-- how many threads count, and how many updates each of them makes
pub record Counting : Type 0 where
  pub threads : ℕ
  pub updates : ℕ

-- a count of this many threads, with this many updates of each
abbrev pub counting : ℕ → ℕ → Counting
counting threads updates = record { threads = threads; updates = updates }

-- the size of a count, if it has 1 to 8 threads and at most 10,000 updates of each thread
abbrev pub count_size : ℕ → ℕ → Option Counting
count_size threads updates =
    cond (leb 1 threads && leb threads 8 && leb updates 10000) (Some (counting threads updates)) None
