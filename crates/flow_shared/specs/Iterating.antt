-- What an iterator over a reader gives: each item is what one `receive` may give. Begin with `GivesNextReceived`. `kind` is the kind of flow.
use Rattle.std.specs.Prelude.{◌≡◌, ◌⊎◌, Option, Some, None, Result, Ok}
use Rattle.atomic_table.specs.Seated.{TableId}
use Rattle.flow_law.specs.declared.errors.OutOfMemory.{OutOfMemory as MemoryError}
use Rattle.flow_law.specs.declared.history.Said.{Said}
use Rattle.flow_law.specs.declared.outcome.Next.TheVariants.{Empty}
use Rattle.flow_law.specs.history.HandleFaults.{answer_by, memory_fault}
use Rattle.flow_law.specs.history.Handles.{ReaderOf}
use Rattle.flow_law.specs.history.History.{Kind}
use Rattle.flow_shared.specs.Receiving.{FlowReceives, NextsUntil}

module _ {T S C R : Type 0} (kind : Kind T S C R) where
  -- the item is what one `receive` of the reader may give
  abbrev pub ReceivesItem : ReaderOf TableId S (Said C R) → Result T MemoryError → ReaderOf TableId S (Said C R) → Type 0
  ReceivesItem old item new = (new.flow ≡ old.flow) × FlowReceives kind old.flow old.subscription (answer_by memory_fault item) new.subscription

  -- an item of an iterator that does not end
  abbrev pub GivesNextReceived : ReaderOf TableId S (Said C R) → Option (Result T MemoryError) → ReaderOf TableId S (Said C R) → Type 0
  GivesNextReceived old (Some item) new = ReceivesItem old item new
  GivesNextReceived old None new = ⊥

  -- An item of an iterator that ends when its time is up: it has then called `next` some times, which found nothing, or not at all.
  abbrev pub GivesInTime : ReaderOf TableId S (Said C R) → Option (Result T MemoryError) → ReaderOf TableId S (Said C R) → Type 0
  GivesInTime old (Some item) new = ReceivesItem old item new
  GivesInTime old None new =
      (new ≡ old) ⊎ ((new.flow ≡ old.flow) × NextsUntil kind old.flow old.subscription (Ok Empty) new.subscription)
