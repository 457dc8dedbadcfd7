-- The list as contracts see it: the numbers of the callers that sleep.
use Rattle.std.specs.Prelude.{◌≡◌, ◌⊎◌, ◌<◌, ℕ, List, map, insert, length, slice_index_or}
use Rattle.flow_sleepers.specs.declared.sleepers.Sleeper.{Sleeper}

-- the numbers of the sleepers
abbrev pub numbers_of : {A : Type 0} → List (Sleeper A) → List ℕ
numbers_of list = map (λ s. s.number) list

-- the list has not changed (it had the number already, or no waker was kept), or the number was inserted
abbrev pub AddsSleeper : ℕ → List ℕ → List ℕ → Type 0
AddsSleeper number old new = (new ≡ old) ⊎ ((place : ℕ) × (new ≡ insert old place number))

-- the sleeper at this place has this number
abbrev pub HasNumber : List ℕ → ℕ → ℕ → Type 0
HasNumber numbers place number = (place < length numbers) × (slice_index_or numbers place number ≡ number)
