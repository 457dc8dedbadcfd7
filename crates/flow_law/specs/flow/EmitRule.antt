-- What `emit` and `try_emit` do, by the first case that fits (`BufferOverflow`).
--   case            emit                       try_emit
--   appends         append, done               the same, true
--   offers          append, the emitter waits  unchanged, false
--   queues          the value waits            unchanged, false
--   drops_latest    unchanged, done            unchanged, true
--   drops_oldest    append, drop the oldest    the same, true
use Rattle.std.specs.Prelude.{◌+◌, ◌-◌, Bool, true, false, not, ◌&&◌, ◌||◌, ◌==◌, nat_lt, if◌then◌else◌, [], ◌∷◌, ◌++◌, length}
use Rattle.flow_law.specs.declared.config.Overflow.{Overflow}
use Rattle.flow_law.specs.declared.config.Overflow.TheVariants.{Suspend, DropOldest, DropLatest}
use Rattle.flow_law.specs.declared.outcome.Emit.{Emit}
use Rattle.flow_law.specs.declared.outcome.Emit.TheVariants.{Done, Queued}
use Rattle.flow_law.specs.flow.SharedFlow.{Numbered, SharedFlowState, Replied, answer, issuing, capacity, is_blocked, raise_to}

-- what an emission does
pub data EmitCase : Type 0 where
  appends : EmitCase
  offers : EmitCase
  queues : EmitCase
  drops_latest : EmitCase
  drops_oldest : EmitCase

-- what an emission into a blocked flow does
abbrev pub when_blocked : Overflow → EmitCase
when_blocked Suspend = queues
when_blocked DropLatest = drops_latest
when_blocked DropOldest = drops_oldest

-- `emit` adds the value to the queue
abbrev pub is_suspended : EmitCase → Bool
is_suspended queues = true
is_suspended _ = false

module _ {T : Type 0} where
  -- the flow accepts a value at once: it has no subscriber, or it has a buffer and is not blocked
  abbrev pub is_open : SharedFlowState T → Bool
  is_open s = (length s.subscribers == 0) || (not (is_blocked s) && nat_lt 0 (capacity s))

  -- what an emission does in this state
  abbrev pub emit_case : SharedFlowState T → EmitCase
  emit_case s = if is_open s then appends else (if is_blocked s then when_blocked s.config.overflow else offers)

  -- the value with the number that it takes
  abbrev pub numbered : T → SharedFlowState T → Numbered T
  numbered v s = record { value = v; number = s.issued + 1 }

  -- the value takes the next number, and a place at the end of the emitted values
  abbrev pub append : T → SharedFlowState T → SharedFlowState T
  append v s = record s { emitted = s.emitted ++ numbered v s ∷ []; issued = s.issued + 1 }

  -- the value takes the next number, and a place at the end of the queue
  abbrev pub suspend : T → SharedFlowState T → SharedFlowState T
  suspend v s = record s { queue = s.queue ++ numbered v s ∷ []; issued = s.issued + 1 }

  -- a subscriber that has more than a buffer to receive misses the oldest values
  abbrev pub drop_oldest : SharedFlowState T → SharedFlowState T
  drop_oldest s = record s { subscribers = raise_to (length s.emitted - capacity s) s.subscribers }

  -- `emit` in each case
  abbrev pub emit_in : EmitCase → T → SharedFlowState T → Replied Emit T
  emit_in appends v s = issuing s (answer Done (append v s))
  emit_in offers v s = issuing s (answer (Queued (s.issued + 1)) (append v s))
  emit_in queues v s = issuing s (answer (Queued (s.issued + 1)) (suspend v s))
  emit_in drops_latest v s = answer Done s
  emit_in drops_oldest v s = issuing s (answer Done (drop_oldest (append v s)))

  -- `try_emit` in each case
  abbrev pub try_emit_in : EmitCase → T → SharedFlowState T → Replied Bool T
  try_emit_in appends v s = issuing s (answer true (append v s))
  try_emit_in offers v s = answer false s
  try_emit_in queues v s = answer false s
  try_emit_in drops_latest v s = answer true s
  try_emit_in drops_oldest v s = issuing s (answer true (drop_oldest (append v s)))

  -- `emit`
  abbrev pub emit : T → SharedFlowState T → Replied Emit T
  emit v s = emit_in (emit_case s) v s

  -- `try_emit`
  abbrev pub try_emit : T → SharedFlowState T → Replied Bool T
  try_emit v s = try_emit_in (emit_case s) v s
