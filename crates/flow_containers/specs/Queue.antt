-- The queue as the definitions have it. No public clause cites this module.
use Rattle.std.specs.Prelude.{◌≡◌, ℕ, ◌<◌, ◌^◌, ◌==◌, true, false, not, List, map, filter, length, Option, Some, None}
use Rattle.std.specs.List.{list_any, remove}
use Rattle.flow_law.specs.declared.states.Numbered.{Numbered}
use Rattle.flow_law.specs.laws.Laws.{RisesTo}
use Rattle.flow_containers.specs.declared.queue.Queued.{Queued}
use Rattle.flow_containers.specs.declared.queue.Queue.TheInside.{Inside}

-- a waiting value and its number, as the definitions have them
abbrev pub numbered_of : {T : Type 0} → Queued T → Numbered T
numbered_of q = record { value = q.value; number = q.number }

-- the waiting values, in their order
abbrev pub queue_of : {T A : Type 0} → Inside T A → List (Numbered T)
queue_of q = map numbered_of q.items.items

-- the numbers of a queue rise
abbrev pub Rises : {T : Type 0} → List (Numbered T) → Type 0
Rises queue = RisesTo 0 (map (λ q. q.number) queue) (2 ^ 64)

-- the place of the value with this number, or `None` if no value has it; and the queue without that value
abbrev pub IsPlace : {T : Type 0} → ℕ → List (Numbered T) → Option ℕ → Type 0
IsPlace number queue None = (list_any (λ q. q.number == number) queue ≡ false) × (queue ≡ filter (λ q. not (q.number == number)) queue)
IsPlace number queue (Some place) =
    (place < length queue) × (list_any (λ q. q.number == number) queue ≡ true) × (remove queue place ≡ filter (λ q. not (q.number == number)) queue)
