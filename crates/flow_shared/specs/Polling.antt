-- What the polls of a reader do, one by one and as a whole run. Begin with `PollsNext`. `flow` is the flow: which one, and the
-- state that it began with.
use Rattle.std.specs.Prelude.{◌≡◌, ⊤, ◌⊎◌, List, [], ◌∷◌, Option, Some, None, Result, Ok, Err}
use Rattle.atomic_table.specs.Seated.{TableId}
use Rattle.futures.specs.declared.task.Poll.{Poll as Polled}
use Rattle.futures.specs.declared.task.Poll.TheVariants.{Ready, Pending}
use Rattle.flow_law.specs.declared.errors.OutOfMemory.{OutOfMemory as MemoryError}
use Rattle.flow_law.specs.declared.fault.FlowFault.{FlowFault}
use Rattle.flow_law.specs.declared.fault.FlowFault.TheVariants.{Busy}
use Rattle.flow_law.specs.declared.history.Said.{Said}
use Rattle.flow_law.specs.declared.outcome.Next.{Next}
use Rattle.flow_law.specs.declared.outcome.Next.TheVariants.{Value, Empty}
use Rattle.flow_law.specs.history.HandleFaults.{answer_by, memory_fault}
use Rattle.flow_law.specs.history.Handles.{ReaderOf}
use Rattle.flow_law.specs.history.History.{Kind}
use Rattle.flow_law.specs.history.Tokens.{IsBusy}
use Rattle.flow_gate.specs.Tokens.{GateOrigin}
use Rattle.flow_shared.specs.Calls.{GateNumbered, NextsOf}
use Rattle.flow_shared.specs.Receiving.{FlowReceives, as_next}

-- what a poll returns for this answer of the flow
abbrev pub polled_by : {T : Type 0} → Result (Next T) FlowFault → Polled (Result T MemoryError)
polled_by (Ok (Value v)) = Ready (Ok v)
polled_by (Ok _) = Pending
polled_by (Err Busy) = Pending
polled_by (Err fault) = Ready (Err (record {}))

module _ {T S C R : Type 0} (kind : Kind T S C R) (flow : GateOrigin S) where
  -- one call of `next`, which lost no exchange
  abbrev pub NextsAtOnce : GateNumbered (Said C R) → Result (Next T) FlowFault → GateNumbered (Said C R) → Type 0
  NextsAtOnce old result new = NextsOf kind flow old result new × (new.token.knows.lost ≡ old.token.knows.lost)

  -- One poll: it was busy and lost one exchange, or it made one call of `next`, and is ready if that gave a value or was refused.
  abbrev pub PollsNext : GateNumbered (Said C R) → Polled (Result T MemoryError) → GateNumbered (Said C R) → Type 0
  PollsNext old Pending new = ((new.number ≡ old.number) × IsBusy old.token new.token) ⊎ NextsAtOnce old (Ok Empty) new
  PollsNext old (Ready given) new = NextsAtOnce old (as_next (answer_by memory_fault given)) new

  -- one poll of a stream, which does not end
  abbrev pub PollsItem : GateNumbered (Said C R) → Polled (Option (Result T MemoryError)) → GateNumbered (Said C R) → Type 0
  PollsItem old Pending new = PollsNext old Pending new
  PollsItem old (Ready (Some given)) new = PollsNext old (Ready given) new
  PollsItem old (Ready None) new = ⊥

  -- each item is what one `receive` may give, in order, and the stream does not end
  abbrev pub Yields : GateNumbered (Said C R) → List (Result T MemoryError) → Option (Result T MemoryError) → Type 0
  Yields old [] (Some x) = (u : GateNumbered (Said C R)) × FlowReceives kind flow old (answer_by memory_fault x) u
  Yields old [] None = ⊥
  Yields old (x ∷ xs) next = (u : GateNumbered (Said C R)) × FlowReceives kind flow old (answer_by memory_fault x) u × Yields u xs next

-- One poll of a future of a reader, by the reader before it, its answer and the reader after it. A poll after `Ready` does nothing.
abbrev pub PollsReader : {T S C R : Type 0} → Kind T S C R → Option (ReaderOf TableId S (Said C R)) → Polled (ReaderOf TableId S (Said C R) × Result T MemoryError) → Option (ReaderOf TableId S (Said C R)) → Type 0
PollsReader kind (Some old) Pending (Some new) = (new.flow ≡ old.flow) × PollsNext kind old.flow old.subscription Pending new.subscription
PollsReader kind (Some old) (Ready given) None = (given.0.flow ≡ old.flow) × PollsNext kind old.flow old.subscription (Ready given.1) given.0.subscription
PollsReader kind None Pending None = ⊤
PollsReader kind _ _ _ = ⊥

-- what a future of a reader may give: the reader, and the value that it received or its refusal; nothing more after `Ready`
abbrev pub GivesNext : {T S C R : Type 0} → Kind T S C R → Option (ReaderOf TableId S (Said C R)) → ReaderOf TableId S (Said C R) × Result T MemoryError → Type 0
GivesNext kind (Some reader) given = (given.0.flow ≡ reader.flow) × FlowReceives kind reader.flow reader.subscription (answer_by memory_fault given.1) given.0.subscription
GivesNext kind None given = ⊥
