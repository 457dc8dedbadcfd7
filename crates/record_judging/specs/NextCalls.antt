-- Which call of a record a turn of an order is. Begin with `call_of_turn`.
--   caller 0    |--first: 2--|     |--value: 2--|      its parts: subscribe, next, unsubscribe, value
--   turn        0    1    2          3                 the calls of its turns: first, first, first, value
-- An order is a list of callers: at each turn the next part of that caller's calls happens.
use Rattle.std.specs.Prelude.{ℕ, List, length, slice_get, replicate, Option, Some, None, Vec}
use Rattle.std.specs.List.{flat_map}
use Rattle.std.specs.declared.alloc.Global.{Global}
use Rattle.record_judging.specs.declared.written.WrittenCall.{WrittenCall}
use Rattle.record_judging.specs.declared.written.WrittenFlow.{WrittenFlow}
use Rattle.record_judging.specs.declared.written.WrittenFlow.TheVariants.{State, Shared}
use Rattle.record_judging.specs.StateRows.{state_parts}
use Rattle.record_judging.specs.SharedRows.{shared_entries}

-- how many parts a call has
abbrev pub part_count : WrittenFlow → List ℕ → WrittenCall → ℕ
part_count (State initial) lists call = length (state_parts lists call)
part_count (Shared config) lists call = length (shared_entries lists call)

-- the call, once for each of its parts
abbrev pub call_of_parts : WrittenFlow → List ℕ → WrittenCall → List WrittenCall
call_of_parts flow lists call = replicate (part_count flow lists call) call

-- the call of each part of a caller's calls, in order
abbrev pub calls_of_parts : WrittenFlow → List ℕ → List WrittenCall → List WrittenCall
calls_of_parts flow lists calls = flat_map (call_of_parts flow lists) calls

-- the call of a caller's turn of this index, if the caller has so many parts; indices begin at 0
abbrev pub call_of_turn : WrittenFlow → List ℕ → Option (Vec WrittenCall Global) → ℕ → Option WrittenCall
call_of_turn flow lists None turn = None
call_of_turn flow lists (Some calls) turn = slice_get (calls_of_parts flow lists calls.items) turn
